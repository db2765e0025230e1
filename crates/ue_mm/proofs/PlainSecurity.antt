-- Plain octets make nothing secure.
use Rattle.std.proofs.Common.{◌≡◌, refl, sym, ◌∙◌, ◌⊎◌, inl, inr, ℕ, ◌==◌, ◌||◌, Bool, true, false, not, List, [], ◌∷◌, ◌++◌, length, nat_lt, Option, Some, None, Result, Ok, Err, slice_index_or, arith}
use Rattle.std.proofs.lemmas.Grind.{common_steps}
use Rattle.nas_base.specs.Branches.{when◌then◌else◌}
use Rattle.nas_base.specs.declared.mm_cause.TheConstants as cause
use Rattle.nas_security.specs.Contexts.{SecurityContext}
use Rattle.key_chain.specs.Keys.{res_star}
use Rattle.nas_timers.specs.Durations.{deadline_after, duration_of}
use Rattle.nas_timers.specs.declared.timer_id.TimerId.{TimerId}
use Rattle.nas_timers.specs.declared.timer_id.TimerId.TheVariants.{T3510, T3516, T3517, T3521}
use Rattle.collision_rules.specs.declared.action.Action.{Action}
use Rattle.collision_rules.specs.declared.action.Action.TheVariants.{Take, Discard, Status98, Status43, Status47}
use Rattle.milenage.specs.Checking.{checked}
use Rattle.milenage.specs.declared.autn.AutnAnswer.{AutnAnswer}
use Rattle.milenage.specs.declared.autn.AutnAnswer.TheVariants.{Accepted, MacFailure, NotFiveG, SynchFailure}
use Rattle.mm_messages.specs.Messages.{mm_in, spelling}
use Rattle.mm_messages.specs.declared.authentication.AuthenticationRequest.{AuthenticationRequest}
use Rattle.mm_messages.specs.declared.identification.IdentityRequest.{IdentityRequest}
use Rattle.mm_messages.specs.declared.message.Mm.{Mm}
use Rattle.mm_messages.specs.declared.message.Mm.TheVariants as mm
use Rattle.mm_messages.specs.declared.message.MmRefusal.{MmRefusal}
use Rattle.mm_messages.specs.declared.message.MmRefusal.TheVariants as refusals
use Rattle.mm_messages.specs.declared.registration.RegistrationReject.{RegistrationReject}
use Rattle.mm_messages.specs.declared.service.ServiceReject.{ServiceReject}
use Rattle.ue_mm.specs.Authentication.{accepted, answer_again, answered, authentication_requested, challenged, failure, is_ksi_refused}
use Rattle.ue_mm.specs.Connection.{deregistered, erased, idle}
use Rattle.mm_entity.specs.Heads.{header_of}
use Rattle.ue_mm.specs.Delivery.{action, delivered, is_permitted_type, is_plain_allowed, new_context, plain, plain_by_table, plain_read, protected, taken}
use Rattle.mm_entity.specs.Framing.{is_too_long}
use Rattle.ue_mm.specs.Framing.{framed, framed_all}
use Rattle.ue_mm.specs.Identification.{identity_requested}
use Rattle.ue_mm.specs.Laws.{PlainSecuresNothing, SecuresNothing}
use Rattle.ue_mm.specs.Registration.{registration_rejected}
use Rattle.ue_mm.specs.Service.{service_accepted, service_rejected}
use Rattle.ue_mm.specs.State.{MmState}
use Rattle.ue_mm.specs.Step.{ended, started, worked}
use Rattle.ue_mm.specs.Work.{answer, start, status, stop, tell}
use Rattle.ue_mm.specs.declared.acts.Act.{Act}
use Rattle.ue_mm.specs.declared.acts.Act.TheVariants.{Say, Tell}
use Rattle.ue_mm.specs.declared.acts.Protection.{Protection}
use Rattle.ue_mm.specs.declared.acts.Protection.TheVariants.{Plain, IntegrityProtected, Ciphered, CipheredWithNewContext}
use Rattle.ue_mm.specs.declared.authentication.Request.{Request}
use Rattle.ue_mm.specs.declared.framing.Framed.{Framed}
use Rattle.ue_mm.specs.declared.outs.UeOut.{UeOut}
use Rattle.ue_mm.specs.declared.outs.UeOut.TheVariants.{Abandon, Clear, Start, Stop}
use Rattle.ue_mm.specs.declared.work.Work.{Work}
use Rattle.nas_base.proofs.Branching.{per_holds, when_false, when_holds}

-- what is said is said plain
abbrev ArePlain : List Act → Type 0
ArePlain [] = Unit {0}
ArePlain (Tell out ∷ acts) = ArePlain acts
ArePlain (Say fresh protection message ∷ acts) = (protection ≡ Plain) × ArePlain acts

plain_told : (acts : List Act) (out : UeOut) → ArePlain acts → ArePlain (acts ++ Tell out ∷ [])
plain_told [] out h = tt
plain_told (Tell first ∷ acts) out h = plain_told acts out h
plain_told (Say fresh protection message ∷ acts) out h = (h.0, plain_told acts out h.1)

plain_said : (acts : List Act) (again : Bool) (other : Protection) (m : Mm) → other ≡ Plain → ArePlain acts
    → ArePlain (acts ++ Say again other m ∷ [])
plain_said [] again other m e h = (e, tt)
plain_said (Tell first ∷ acts) again other m e h = plain_said acts again other m e h
plain_said (Say fresh protection message ∷ acts) again other m e h = (h.0, plain_said acts again other m e h.1)

plain_stopped : (id : TimerId) (w : Work) → ArePlain w.acts → ArePlain (stop id w).acts
plain_stopped id w h = plain_told w.acts (Stop id) h

plain_started : (id : TimerId) (w : Work) → ArePlain w.acts → ArePlain (start id w).acts
plain_started id w h = plain_told w.acts (Start id (deadline_after w.moment (duration_of id w.common.config.durations))) h

-- What is said plain takes no count of the context.
plain_keeps : (supi : List ℕ) (fresh : Bool) (protection : Protection) (message : Mm) (f : Framed) → protection ≡ Plain
    → (framed supi (Say fresh protection message) f).current ≡ f.current
unfolding framed
plain_keeps supi fresh Plain message f e =
    when_holds (λ (g : Framed). g.current ≡ f.current) (is_too_long (spelling message)) f _ (λ _. refl) (λ _. refl)
plain_keeps supi fresh IntegrityProtected message f e = absurd (cc)
plain_keeps supi fresh Ciphered message f e = absurd (cc)
plain_keeps supi fresh CipheredWithNewContext message f e = absurd (cc)

telling_keeps : (supi : List ℕ) (out : UeOut) (f : Framed) → (framed supi (Tell out) f).current ≡ f.current
unfolding framed
telling_keeps supi out f = refl

all_keep : (supi : List ℕ) (acts : List Act) (f : Framed) → ArePlain acts → (framed_all supi acts f).current ≡ f.current
all_keep supi [] f h = refl
all_keep supi (Tell out ∷ acts) f h = all_keep supi acts (framed supi (Tell out) f) h ∙ telling_keeps supi out f
all_keep supi (Say fresh protection message ∷ acts) f h =
    all_keep supi acts (framed supi (Say fresh protection message) f) h.1 ∙ plain_keeps supi fresh protection message f h.0

-- nothing is secure, and the context is the one that was there, or none
record IsUnsecured (current : Option SecurityContext) (w : Work) : Type 0 where
  open_still : w.common.secure ≡ false
  kept : (w.common.current ≡ None) ⊎ (w.common.current ≡ current)
  said : ArePlain w.acts

answer_unsecured : (current : Option SecurityContext) (m : Mm) (w : Work) → IsUnsecured current w → IsUnsecured current (answer m w)
answer_unsecured current m w h = record {
  open_still = h.open_still;
  kept = h.kept;
  said = plain_said w.acts false _ m (when_false w.common.secure Ciphered Plain h.open_still) h.said;
}

deregistered_unsecured : (current : Option SecurityContext) (w : Work) → IsUnsecured current w → IsUnsecured current (deregistered w)
unfolding deregistered idle
deregistered_unsecured current w h = record {
  open_still = refl;
  kept = h.kept;
  said = plain_told five.acts Clear (plain_told four.acts Abandon
      (plain_stopped T3521 three (plain_stopped T3517 two (plain_stopped T3516 one (plain_stopped T3510 w h.said)))));
}
  where
    one : Work
    one = stop T3510 w

    two : Work
    two = stop T3516 one

    three : Work
    three = stop T3517 two

    four : Work
    four = stop T3521 three

    five : Work
    five = tell Abandon four

erased_unsecured : (current : Option SecurityContext) (w : Work) → IsUnsecured current w → IsUnsecured current (erased (deregistered w))
unfolding erased
erased_unsecured current w h =
    let gone = deregistered_unsecured current w h in record { open_still = gone.open_still; kept = inl refl; said = gone.said }

accepted_unsecured : (current : Option SecurityContext) (r : Request) (n : ℕ) (res ck ik : List ℕ) (w : Work) → IsUnsecured current w
    → IsUnsecured current (accepted r n res ck ik w)
accepted_unsecured current r n res ck ik w h = record {
  open_still = h.open_still;
  kept = h.kept;
  said = plain_said (start T3516 w).acts false _ (mm.AuthenticationResponse (record { res_star = Some (res_star ck ik w.common.config.plmn r.rand res) }))
      (when_false w.common.secure Ciphered Plain h.open_still) (plain_started T3516 w h.said);
}

answered_unsecured : (current : Option SecurityContext) (a : AutnAnswer) (r : Request) (w : Work) → IsUnsecured current w
    → IsUnsecured current (answered a r w)
answered_unsecured current (Accepted n res ck ik ak) r w h = accepted_unsecured current r n res ck ik w h
answered_unsecured current MacFailure r w h = answer_unsecured current _ w h
answered_unsecured current NotFiveG r w h = answer_unsecured current _ w h
answered_unsecured current (SynchFailure auts) r w h = answer_unsecured current _ w h

challenged_unsecured : (current : Option SecurityContext) (r : Request) (w : Work) → IsUnsecured current w
    → IsUnsecured current (challenged r w)
unfolding challenged
challenged_unsecured current r w h =
    per_holds (λ (x : Work). IsUnsecured current x) (answer_again w.common.stored r) _ _
    (λ _. when_holds (λ (x : Work). IsUnsecured current x) (is_ksi_refused w.common.current r.ksi) (failure cause.NGKSI_ALREADY_IN_USE None w) _
    (λ _. answer_unsecured current _ w h)
    (λ _. answered_unsecured current (checked w.common.config.k w.common.config.opc r.rand r.autn w.common.sqn) r w h))
    (λ res_star _. answer_unsecured current _ w h)

authentication_unsecured : (current : Option SecurityContext) (m : AuthenticationRequest) (w : Work) → IsUnsecured current w
    → IsUnsecured current (authentication_requested m w)
unfolding authentication_requested
authentication_unsecured current m w h =
    per_holds (λ (x : Work). IsUnsecured current x) m.rand (status cause.PROTOCOL_ERROR_UNSPECIFIED w) _
    (λ _. answer_unsecured current _ w h)
    (λ rand _. per_holds (λ (x : Work). IsUnsecured current x) m.autn (status cause.PROTOCOL_ERROR_UNSPECIFIED w) _
    (λ _. answer_unsecured current _ w h)
    (λ autn _. challenged_unsecured current _ w h))

identity_unsecured : (current : Option SecurityContext) (m : IdentityRequest) (w : Work) → IsUnsecured current w
    → IsUnsecured current (identity_requested m w)
unfolding identity_requested
identity_unsecured current m w h =
    when_holds (λ (x : Work). IsUnsecured current x) (m.identity_type == 1) _ (status cause.PROTOCOL_ERROR_UNSPECIFIED w)
    (λ _. answer_unsecured current _ w h) (λ _. answer_unsecured current _ w h)

rejected_unsecured : (current : Option SecurityContext) (m : RegistrationReject) (w : Work) → IsUnsecured current w
    → IsUnsecured current (registration_rejected m w)
unfolding registration_rejected
rejected_unsecured current m w h =
    when_holds (λ (x : Work). IsUnsecured current x)
    (m.cause == cause.ILLEGAL_UE || m.cause == cause.UE_IDENTITY_CANNOT_BE_DERIVED_BY_THE_NETWORK) _ _
    (λ _. erased_unsecured current w h) (λ _. deregistered_unsecured current w h)

unserved_unsecured : (current : Option SecurityContext) (m : ServiceReject) (w : Work) → IsUnsecured current w
    → IsUnsecured current (service_rejected m w)
unfolding service_rejected service_accepted
unserved_unsecured current m w h =
    when_holds (λ (x : Work). IsUnsecured current x) (m.cause == cause.UE_IDENTITY_CANNOT_BE_DERIVED_BY_THE_NETWORK) _ _
    (λ _. erased_unsecured current w h)
    (λ _. when_holds (λ (x : Work). IsUnsecured current x) (m.cause == cause.IMPLICITLY_DEREGISTERED) _ _ (λ _. deregistered_unsecured current w h)
    (λ _. record { open_still = h.open_still; kept = h.kept; said = plain_told w.acts _ h.said }))

-- the rows of the messages that are permitted
taken_unsecured : (current : Option SecurityContext) (m : Mm) (w : Work) → is_plain_allowed m ≡ true → IsUnsecured current w
    → IsUnsecured current (taken m w)
unfolding taken
taken_unsecured current (mm.AuthenticationRequest m) w e h = authentication_unsecured current m w h
taken_unsecured current mm.AuthenticationReject w e h = erased_unsecured current w h
taken_unsecured current (mm.IdentityRequest m) w e h = identity_unsecured current m w h
taken_unsecured current (mm.RegistrationReject m) w e h = rejected_unsecured current m w h
taken_unsecured current (mm.ServiceReject m) w e h = unserved_unsecured current m w h
taken_unsecured current mm.DeregistrationAcceptUeOriginating w e h = deregistered_unsecured current w h
taken_unsecured current (mm.RegistrationAccept m) w e h = absurd (cc)
taken_unsecured current (mm.ServiceAccept m) w e h = absurd (cc)
taken_unsecured current (mm.DeregistrationRequestUeTerminated m) w e h = absurd (cc)
taken_unsecured current (mm.DlNasTransport m) w e h = absurd (cc)
taken_unsecured current (mm.ConfigurationUpdateCommand m) w e h = absurd (cc)
taken_unsecured current (mm.SecurityModeCommand m) w e h = h
taken_unsecured current (mm.RegistrationRequest m) w e h = h
taken_unsecured current mm.RegistrationComplete w e h = h
taken_unsecured current (mm.DeregistrationRequestUeOriginating m) w e h = h
taken_unsecured current mm.DeregistrationAcceptUeTerminated w e h = h
taken_unsecured current (mm.ServiceRequest m) w e h = h
taken_unsecured current mm.ConfigurationUpdateComplete w e h = h
taken_unsecured current (mm.AuthenticationResponse m) w e h = h
taken_unsecured current (mm.AuthenticationFailure m) w e h = h
taken_unsecured current (mm.IdentityResponse m) w e h = h
taken_unsecured current (mm.SecurityModeComplete m) w e h = h
taken_unsecured current (mm.SecurityModeReject m) w e h = h
taken_unsecured current (mm.FiveGmmStatus m) w e h = h
taken_unsecured current (mm.UlNasTransport m) w e h = h

table_unsecured : (current : Option SecurityContext) (a : Action) (m : Mm) (w : Work) → is_plain_allowed m ≡ true → IsUnsecured current w
    → IsUnsecured current (plain_by_table a m w)
table_unsecured current Take m w e h = taken_unsecured current m w e h
table_unsecured current Status98 m w e h = h
table_unsecured current Discard m w e h = h
table_unsecured current Status43 m w e h = h
table_unsecured current Status47 m w e h = h

read_unsecured : (current : Option SecurityContext) (read : Result Mm MmRefusal) (octets : List ℕ) (w : Work) → IsUnsecured current w
    → IsUnsecured current (plain_read read octets w)
read_unsecured current (Ok m) octets w h =
    when_holds (λ (x : Work). IsUnsecured current x) (is_plain_allowed m) (plain_by_table (action m w) m w) w
    (λ e. table_unsecured current (action m w) m w e h) (λ _. h)
read_unsecured current (Err (refusals.Ignored at)) octets w h = h
read_unsecured current (Err (refusals.UnknownType n)) octets w h = answer_unsecured current _ w h
read_unsecured current (Err (refusals.Mandatory n at)) octets w h =
    when_holds (λ (x : Work). IsUnsecured current x) (is_permitted_type (slice_index_or octets 2 0)) (status cause.INVALID_MANDATORY_INFORMATION w) w
    (λ _. answer_unsecured current _ w h) (λ _. h)
read_unsecured current (Err refusals.Memory) octets w h = h

-- what a step leaves of a work in which nothing is secure, or that is as it began
end_of_unsecured : (s : MmState) (w : Work) → IsUnsecured s.common.current w → SecuresNothing s (Ok (ended w))
unfolding ended
end_of_unsecured s w h = (
  λ e. let other : true ≡ false = sym e ∙ h.open_still in absurd (cc),
  among h.kept,
)
  where
    stays : (framed_all w.common.config.supi w.acts (record { current = w.common.current; outs = [] })).current ≡ w.common.current
    stays = all_keep w.common.config.supi w.acts (record { current = w.common.current; outs = [] }) h.said

    among : (w.common.current ≡ None) ⊎ (w.common.current ≡ s.common.current)
        → ((framed_all w.common.config.supi w.acts (record { current = w.common.current; outs = [] })).current ≡ None)
        ⊎ ((framed_all w.common.config.supi w.acts (record { current = w.common.current; outs = [] })).current ≡ s.common.current)
    among (inl e) = inl (stays ∙ e)
    among (inr e) = inr (stays ∙ e)

end_of_nothing : (s : MmState) (now : ℕ) (held : List Bool) → SecuresNothing s (Ok (ended (started s now held)))
unfolding ended
end_of_nothing s now held = (λ e. e, inr refl)

pub plain_secures_nothing : (s : MmState) (now : ℕ) (held : List Bool) (octets : List ℕ) → PlainSecuresNothing s now held octets
unfolding worked delivered plain
plain_secures_nothing s now held octets header =
    let w : Work = started s now held in
    when_holds (λ (x : Work). SecuresNothing s (Ok (ended x))) (not w.common.connected || nat_lt 4096 (length octets)) w
    (when header_of octets == 0 then plain octets w
    else (when header_of octets == 3 then new_context octets w else protected octets w))
    (λ _. end_of_nothing s now held)
    (λ _. when_holds (λ (x : Work). SecuresNothing s (Ok (ended x))) (header_of octets == 0) (plain octets w)
    (when header_of octets == 3 then new_context octets w else protected octets w)
    (λ _. when_holds (λ (x : Work). SecuresNothing s (Ok (ended x))) w.common.secure w (plain_read (mm_in octets) octets w)
    (λ _. end_of_nothing s now held)
    (λ unsecured. end_of_unsecured s _ (read_unsecured s.common.current (mm_in octets) octets w
    (record { open_still = unsecured; kept = inr refl; said = tt }))))
    (λ other. absurd (grind (arith, common_steps, header, other))))
