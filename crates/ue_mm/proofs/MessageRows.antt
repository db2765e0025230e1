-- What messages of the network start, stop and say.
use Rattle.std.proofs.Common.{◌≡◌, refl, sym, ap, subst, ◌∙◌, inl, ℕ, ◌==◌, ◌||◌, Bool, true, false, List, [], ◌∷◌, Option, Some, None}
use Rattle.nas_base.specs.declared.mm_cause.TheConstants as cause
use Rattle.nas_base.specs.declared.kind.Kind.{Kind}
use Rattle.nas_base.specs.declared.kind.Kind.TheVariants as kinds
use Rattle.nas_base.specs.declared.mm_kind.MmKind.TheVariants as mm_kinds
use Rattle.collision_rules.specs.Mm.{collide_mm}
use Rattle.collision_rules.specs.declared.action.Action.TheVariants.{Take, Status98}
use Rattle.milenage.specs.Checking.{checked}
use Rattle.milenage.specs.declared.autn.AutnAnswer.{AutnAnswer}
use Rattle.milenage.specs.declared.autn.AutnAnswer.TheVariants.{Accepted, MacFailure, NotFiveG, SynchFailure}
use Rattle.nas_elements.specs.declared.guti.Guti.{Guti}
use Rattle.nas_timers.specs.declared.timer_id.TimerId.TheVariants.{T3510, T3516, T3517}
use Rattle.mm_messages.specs.declared.authentication.AuthenticationRequest.{AuthenticationRequest}
use Rattle.mm_messages.specs.declared.configuration_update.ConfigurationUpdateCommand.{ConfigurationUpdateCommand}
use Rattle.mm_messages.specs.declared.identification.IdentityRequest.{IdentityRequest}
use Rattle.mm_messages.specs.declared.message.Mm.{Mm}
use Rattle.mm_messages.specs.declared.message.Mm.TheVariants as mm
use Rattle.mm_messages.specs.declared.registration.RegistrationAccept.{RegistrationAccept}
use Rattle.mm_messages.specs.declared.registration.RegistrationReject.{RegistrationReject}
use Rattle.mm_messages.specs.declared.service.ServiceReject.{ServiceReject}
use Rattle.mm_messages.specs.declared.transport.DlNasTransport.{DlNasTransport}
use Rattle.ue_mm.specs.Authentication.{accepted, answer_again, answered, authentication_requested, challenged, failure, is_ksi_refused}
use Rattle.ue_mm.specs.ConfigurationUpdate.{configuration_updated, is_acknowledgement_requested, renamed_by}
use Rattle.ue_mm.specs.Connection.{deregistered, erased}
use Rattle.ue_mm.specs.Delivery.{action, taken}
use Rattle.ue_mm.specs.Deregistration.{deregistration_requested}
use Rattle.ue_mm.specs.Identification.{identity_requested, renamed}
use Rattle.ue_mm.specs.Laws.{Running, no_timer, running_in, with_timer}
use Rattle.ue_mm.specs.Registration.{kept, named, registration_accepted, registration_rejected}
use Rattle.ue_mm.specs.Service.{service_accepted, service_rejected}
use Rattle.ue_mm.specs.State.{open_registration, registering_word, word_of}
use Rattle.ue_mm.specs.Transport.{transported}
use Rattle.ue_mm.specs.Work.{status, stop, tell}
use Rattle.ue_mm.specs.declared.authentication.Request.{Request}
use Rattle.ue_mm.specs.declared.outs.UeOut.TheVariants.{ToSession}
use Rattle.ue_mm.specs.declared.procedures.Phase.{Phase}
use Rattle.ue_mm.specs.declared.procedures.Phase.TheVariants.{Deregistered, Registering, Registered, Serving, Deregistering}
use Rattle.ue_mm.specs.declared.procedures.Registration.{Registration}
use Rattle.ue_mm.specs.declared.work.Work.{Work}
use Rattle.nas_base.proofs.Branching.{per_holds, when_holds}
use Rattle.ue_mm.proofs.RowTools.{IsBegun, IsDone, IsQuiet, answer_is_done, answer_is_quiet, begun_is_done, begun_is_quiet, deregistered_is_done, done_of, erased_is_done, not_fresh, quiet_is_done}
use Rattle.ue_mm.proofs.Summary.{IsOneAtMost, Summary, onto, summed, summed_from}
use Rattle.ue_mm.proofs.Summary.Sent.{one}

-- a challenge that is accepted starts T3516, and is answered
accepted_is_done : (s : Summary) (link : Bool) (r : Request) (n : ℕ) (res ck ik : List ℕ) (w : Work) → IsBegun s link (running_in w.phase) w
    → IsDone s link (accepted r n res ck ik w)
accepted_is_done s link r n res ck ik w h =
    done_of s link _ (record { running = running_in w.phase; started = T3516 ∷ []; sent = one false }) (simp (onto, h.said))
    (record { runs = refl; owned = inl refl; few = not_fresh link })

answered_is_done : (s : Summary) (link : Bool) (a : AutnAnswer) (r : Request) (w : Work) → IsBegun s link (running_in w.phase) w
    → IsDone s link (answered a r w)
answered_is_done s link (Accepted n res ck ik ak) r w h = accepted_is_done s link r n res ck ik w h
answered_is_done s link MacFailure r w h = answer_is_done s link w _ h
answered_is_done s link NotFiveG r w h = answer_is_done s link w _ h
answered_is_done s link (SynchFailure auts) r w h = answer_is_done s link w _ h

challenged_is_done : (s : Summary) (link : Bool) (r : Request) (w : Work) → IsBegun s link (running_in w.phase) w
    → IsDone s link (challenged r w)
unfolding challenged
challenged_is_done s link r w h =
    per_holds (λ (x : Work). IsDone s link x) (answer_again w.common.stored r) _ _
    (λ _. when_holds (λ (x : Work). IsDone s link x) (is_ksi_refused w.common.current r.ksi) (failure cause.NGKSI_ALREADY_IN_USE None w) _
    (λ _. answer_is_done s link w _ h)
    (λ _. answered_is_done s link (checked w.common.config.k w.common.config.opc r.rand r.autn w.common.sqn) r w h))
    (λ res_star _. answer_is_done s link w _ h)

authentication_is_done : (s : Summary) (link : Bool) (m : AuthenticationRequest) (w : Work) → IsBegun s link (running_in w.phase) w
    → IsDone s link (authentication_requested m w)
unfolding authentication_requested
authentication_is_done s link m w h =
    per_holds (λ (x : Work). IsDone s link x) m.rand (status cause.PROTOCOL_ERROR_UNSPECIFIED w) _
    (λ _. answer_is_done s link w _ h)
    (λ rand _. per_holds (λ (x : Work). IsDone s link x) m.autn (status cause.PROTOCOL_ERROR_UNSPECIFIED w) _
    (λ _. answer_is_done s link w _ h)
    (λ autn _. challenged_is_done s link _ w h))

identity_is_done : (s : Summary) (link : Bool) (m : IdentityRequest) (w : Work) → IsBegun s link (running_in w.phase) w
    → IsDone s link (identity_requested m w)
unfolding identity_requested
identity_is_done s link m w h =
    when_holds (λ (x : Work). IsDone s link x) (m.identity_type == 1) _ (status cause.PROTOCOL_ERROR_UNSPECIFIED w)
    (λ _. answer_is_done s link w _ h) (λ _. answer_is_done s link w _ h)

-- a 5G-GUTI that is taken is answered, and nothing else
named_is_quiet : (s : Summary) (link : Bool) (guti : Option Guti) (w : Work) → IsBegun s link (running_in w.phase) w
    → IsQuiet s link (running_in w.phase) (named guti w)
named_is_quiet s link guti w h =
    per_holds (λ (x : Work). IsQuiet s link (running_in w.phase) x) guti w _
    (λ _. begun_is_quiet s link (running_in w.phase) w h)
    (λ g _. answer_is_quiet s link (running_in w.phase) (renamed g w) mm.RegistrationComplete
    (record { said = h.said; linked = h.linked }))

named_is_done : (s : Summary) (link : Bool) (guti : Option Guti) (w : Work) → IsBegun s link (running_in w.phase) w
    → IsDone s link (named guti w)
named_is_done s link guti w h =
    per_holds (λ (x : Work). IsDone s link x) guti w _
    (λ _. begun_is_done s link w h)
    (λ g _. answer_is_done s link (renamed g w) mm.RegistrationComplete (record { said = h.said; linked = h.linked }))

-- a registration that ends has its timer stopped
registered_is_quiet : (s : Summary) (link : Bool) (w : Work) → IsQuiet s link (with_timer T3510 true no_timer) w
    → IsQuiet s link no_timer (record (stop T3516 (stop T3510 w)) { phase = Registered })
registered_is_quiet s link w h =
    let e : summed (stop T3516 (stop T3510 w)).acts s ≡ record (summed w.acts s) { running = with_timer T3510 false (summed w.acts s).running } = simp onto in
    record {
      runs = ap (λ (x : Summary). x.running) e ∙ ap (λ (r : Running). with_timer T3510 false r) h.runs;
      quiet = ap (λ (x : Summary). x.started) e ∙ h.quiet;
      few = subst (λ (x : Summary). IsOneAtMost link x.sent) (sym e) h.few;
    }

-- somebody is told something that is no timer and no message
kept_is_done : (s : Summary) (link : Bool) (sessions : Option (List Bool)) (w : Work) → IsQuiet s link (running_in w.phase) w
    → IsDone s link (kept sessions w)
kept_is_done s link sessions w h =
    per_holds (λ (x : Work). IsDone s link x) sessions w _
    (λ _. quiet_is_done s link w h)
    (λ held _. done_of s link _ (summed w.acts s) (simp onto) (quiet_is_done s link w h).sound)

of_registration : (phase : Phase) (r : Registration) → open_registration phase ≡ Some r → running_in phase ≡ with_timer T3510 true no_timer
of_registration Deregistered r e = absurd (cc)
of_registration (Registering p) r e = refl
of_registration Registered r e = absurd (cc)
of_registration (Serving p) r e = absurd (cc)
of_registration (Deregistering p) r e = absurd (cc)

with_timers : (s : Summary) (link : Bool) (running other : Running) (w : Work) → running ≡ other → IsQuiet s link running w
    → IsQuiet s link other w
with_timers s link running other w e h = record { runs = h.runs ∙ e; quiet = h.quiet; few = h.few }

registration_is_done : (s : Summary) (link : Bool) (m : RegistrationAccept) (w : Work) → IsBegun s link (running_in w.phase) w
    → IsDone s link (registration_accepted m w)
unfolding registration_accepted
registration_is_done s link m w h =
    per_holds (λ (x : Work). IsDone s link x) (open_registration w.phase) (named m.guti w) _
    (λ _. named_is_done s link m.guti w h)
    (λ r e. kept_is_done s link m.status (record (stop T3516 (stop T3510 (named m.guti w))) { phase = Registered })
    (registered_is_quiet s link (named m.guti w)
    (with_timers s link (running_in w.phase) (with_timer T3510 true no_timer) (named m.guti w) (of_registration w.phase r e)
    (named_is_quiet s link m.guti w h))))

-- a handset that is rejected is no longer registered
deregisters : (s : Summary) (link : Bool) (w : Work) → IsBegun s link (running_in w.phase) w → IsDone s link (deregistered w)
deregisters s link w h = deregistered_is_done s link (running_in w.phase) w (begun_is_quiet s link (running_in w.phase) w h)

erases : (s : Summary) (link : Bool) (w : Work) → IsBegun s link (running_in w.phase) w → IsDone s link (erased (deregistered w))
erases s link w h = erased_is_done s link (deregistered w) (deregisters s link w h)

rejection_is_done : (s : Summary) (link : Bool) (m : RegistrationReject) (w : Work) → IsBegun s link (running_in w.phase) w
    → IsDone s link (registration_rejected m w)
unfolding registration_rejected
rejection_is_done s link m w h =
    when_holds (λ (x : Work). IsDone s link x) (m.cause == cause.ILLEGAL_UE || m.cause == cause.UE_IDENTITY_CANNOT_BE_DERIVED_BY_THE_NETWORK) _ _
    (λ _. erases s link w h) (λ _. deregisters s link w h)

-- The answers to a service request are taken where it is open.
not_in_registering : (kind : Kind) → collide_mm (registering_word kind) mm_kinds.ServiceAccept ≡ Status98
not_in_registering kinds.Initial = refl
not_in_registering kinds.Mobility = refl
not_in_registering kinds.Periodic = refl

of_service : (phase : Phase) → collide_mm (word_of phase) mm_kinds.ServiceAccept ≡ Take → running_in phase ≡ with_timer T3517 true no_timer
of_service Deregistered e = absurd (cc)
of_service (Registering p) e = let other : Status98 ≡ Take = sym (not_in_registering p.kind) ∙ e in absurd (cc)
of_service Registered e = absurd (cc)
of_service (Serving p) e = refl
of_service (Deregistering p) e = absurd (cc)

service_is_done : (s : Summary) (link : Bool) (w : Work) → running_in w.phase ≡ with_timer T3517 true no_timer
    → IsBegun s link (running_in w.phase) w → IsDone s link (service_accepted w)
unfolding service_accepted
service_is_done s link w e h =
    let said : summed w.acts s ≡ summed_from (with_timer T3517 true no_timer) = h.said ∙ ap summed_from e in
    done_of s link _ (summed_from no_timer) (simp (onto, said)) (record { runs = refl; owned = tt; few = tt })

service_rejection_is_done : (s : Summary) (link : Bool) (m : ServiceReject) (w : Work) → running_in w.phase ≡ with_timer T3517 true no_timer
    → IsBegun s link (running_in w.phase) w → IsDone s link (service_rejected m w)
unfolding service_rejected
service_rejection_is_done s link m w e h =
    when_holds (λ (x : Work). IsDone s link x) (m.cause == cause.UE_IDENTITY_CANNOT_BE_DERIVED_BY_THE_NETWORK) _ _ (λ _. erases s link w h)
    (λ _. when_holds (λ (x : Work). IsDone s link x) (m.cause == cause.IMPLICITLY_DEREGISTERED) _ _ (λ _. deregisters s link w h)
    (λ _. service_is_done s link w e h))

deregistration_is_done : (s : Summary) (link : Bool) (w : Work) → IsBegun s link (running_in w.phase) w
    → IsDone s link (deregistration_requested w)
unfolding deregistration_requested
deregistration_is_done s link w h =
    deregistered_is_done s link (running_in w.phase) _ (answer_is_quiet s link (running_in w.phase) w mm.DeregistrationAcceptUeTerminated h)

transport_is_done : (s : Summary) (link : Bool) (m : DlNasTransport) (w : Work) → IsBegun s link (running_in w.phase) w
    → IsDone s link (transported m w)
unfolding transported
transport_is_done s link m w h =
    when_holds (λ (x : Work). IsDone s link x) (m.container_type == 1) _ w
    (λ _. per_holds (λ (x : Work). IsDone s link x) m.cause (tell (ToSession m.container) w) _
    (λ _. done_of s link _ (summed w.acts s) (simp onto) (begun_is_done s link w h).sound)
    (λ n _. done_of s link _ (summed w.acts s) (simp onto) (begun_is_done s link w h).sound))
    (λ _. begun_is_done s link w h)

-- a 5G-GUTI that is taken without a registration says nothing, and COMPLETE is an answer
renaming_is_begun : (s : Summary) (link : Bool) (guti : Option Guti) (w : Work) → IsBegun s link (running_in w.phase) w
    → IsBegun s link (running_in (renamed_by guti w).phase) (renamed_by guti w)
renaming_is_begun s link guti w h =
    per_holds (λ (x : Work). IsBegun s link (running_in x.phase) x) guti w _
    (λ _. h) (λ g _. record { said = h.said; linked = h.linked })

update_is_done : (s : Summary) (link : Bool) (m : ConfigurationUpdateCommand) (w : Work) → IsBegun s link (running_in w.phase) w
    → IsDone s link (configuration_updated m w)
unfolding configuration_updated
update_is_done s link m w h =
    let begun = renaming_is_begun s link m.guti w h in
    when_holds (λ (x : Work). IsDone s link x) (is_acknowledgement_requested m.indication) _ (renamed_by m.guti w)
    (λ _. answer_is_done s link (renamed_by m.guti w) mm.ConfigurationUpdateComplete begun)
    (λ _. begun_is_done s link (renamed_by m.guti w) begun)

-- the row of each message
pub taken_is_done : (s : Summary) (link : Bool) (m : Mm) (w : Work) → action m w ≡ Take → IsBegun s link (running_in w.phase) w
    → IsDone s link (taken m w)
unfolding taken
taken_is_done s link (mm.AuthenticationRequest m) w e h = authentication_is_done s link m w h
taken_is_done s link mm.AuthenticationReject w e h = erases s link w h
taken_is_done s link (mm.IdentityRequest m) w e h = identity_is_done s link m w h
taken_is_done s link (mm.RegistrationAccept m) w e h = registration_is_done s link m w h
taken_is_done s link (mm.RegistrationReject m) w e h = rejection_is_done s link m w h
taken_is_done s link (mm.ServiceAccept m) w e h = service_is_done s link w (of_service w.phase e) h
taken_is_done s link (mm.ServiceReject m) w e h = service_rejection_is_done s link m w (of_service w.phase e) h
taken_is_done s link (mm.DeregistrationRequestUeTerminated m) w e h = deregistration_is_done s link w h
taken_is_done s link mm.DeregistrationAcceptUeOriginating w e h = deregisters s link w h
taken_is_done s link (mm.DlNasTransport m) w e h = transport_is_done s link m w h
taken_is_done s link (mm.ConfigurationUpdateCommand m) w e h = update_is_done s link m w h
taken_is_done s link (mm.SecurityModeCommand m) w e h = begun_is_done s link w h
taken_is_done s link (mm.RegistrationRequest m) w e h = begun_is_done s link w h
taken_is_done s link mm.RegistrationComplete w e h = begun_is_done s link w h
taken_is_done s link (mm.DeregistrationRequestUeOriginating m) w e h = begun_is_done s link w h
taken_is_done s link mm.DeregistrationAcceptUeTerminated w e h = begun_is_done s link w h
taken_is_done s link (mm.ServiceRequest m) w e h = begun_is_done s link w h
taken_is_done s link mm.ConfigurationUpdateComplete w e h = begun_is_done s link w h
taken_is_done s link (mm.AuthenticationResponse m) w e h = begun_is_done s link w h
taken_is_done s link (mm.AuthenticationFailure m) w e h = begun_is_done s link w h
taken_is_done s link (mm.IdentityResponse m) w e h = begun_is_done s link w h
taken_is_done s link (mm.SecurityModeComplete m) w e h = begun_is_done s link w h
taken_is_done s link (mm.SecurityModeReject m) w e h = begun_is_done s link w h
taken_is_done s link (mm.FiveGmmStatus m) w e h = begun_is_done s link w h
taken_is_done s link (mm.UlNasTransport m) w e h = begun_is_done s link w h
