-- Rows tell no message as passed: that octets passed is told before their row.
use Rattle.std.proofs.Common.{◌≡◌, sym, ℕ, ◌==◌, ◌||◌, Bool, List, [], ◌∷◌, ◌++◌, flat_map, Option, None, Result, Ok, Err, slice_index_or}
use Rattle.std.proofs.lemmas.List.{append-nil, flat_map_more}
use Rattle.nas_base.proofs.Branching.{per_holds, when_holds}
use Rattle.nas_base.specs.declared.mm_cause.TheConstants as cause
use Rattle.nas_elements.specs.declared.asi.Asi.{Asi}
use Rattle.nas_elements.specs.declared.guti.Guti.{Guti}
use Rattle.nas_security.specs.Contexts.{SecurityContext}
use Rattle.nas_security.specs.declared.sends.Pass.{Pass}
use Rattle.collision_rules.specs.declared.action.Action.{Action}
use Rattle.collision_rules.specs.declared.action.Action.TheVariants.{Take, Discard, Status98, Status43, Status47}
use Rattle.milenage.specs.Checking.{checked}
use Rattle.milenage.specs.declared.autn.AutnAnswer.{AutnAnswer}
use Rattle.milenage.specs.declared.autn.AutnAnswer.TheVariants.{Accepted, MacFailure, NotFiveG, SynchFailure}
use Rattle.mm_messages.specs.Messages.{mm_in}
use Rattle.mm_messages.specs.declared.authentication.AuthenticationRequest.{AuthenticationRequest}
use Rattle.mm_messages.specs.declared.configuration_update.ConfigurationUpdateCommand.{ConfigurationUpdateCommand}
use Rattle.mm_messages.specs.declared.identification.IdentityRequest.{IdentityRequest}
use Rattle.mm_messages.specs.declared.message.Mm.{Mm}
use Rattle.mm_messages.specs.declared.message.Mm.TheVariants as mm
use Rattle.mm_messages.specs.declared.message.MmRefusal.{MmRefusal}
use Rattle.mm_messages.specs.declared.message.MmRefusal.TheVariants as refusals
use Rattle.mm_messages.specs.declared.registration.RegistrationAccept.{RegistrationAccept}
use Rattle.mm_messages.specs.declared.registration.RegistrationReject.{RegistrationReject}
use Rattle.mm_messages.specs.declared.security_mode.SecurityModeCommand.{SecurityModeCommand}
use Rattle.mm_messages.specs.declared.service.ServiceReject.{ServiceReject}
use Rattle.mm_messages.specs.declared.transport.DlNasTransport.{DlNasTransport}
use Rattle.mm_entity.specs.Heads.{five_gmm_status}
use Rattle.ue_mm.specs.Authentication.{answer_again, answered, authentication_requested, challenged, failure, is_ksi_refused}
use Rattle.ue_mm.specs.ConfigurationUpdate.{configuration_updated, is_acknowledgement_requested, renamed_by}
use Rattle.ue_mm.specs.Connection.{deregistered, erased, idle}
use Rattle.ue_mm.specs.Delivery.{action, by_table, is_permitted_type, is_plain_allowed, passed, passed_read, plain_by_table, plain_read, taken}
use Rattle.ue_mm.specs.Deregistration.{deregistration_requested}
use Rattle.ue_mm.specs.Identification.{identity_requested}
use Rattle.ue_mm.specs.Laws.{passed_in}
use Rattle.ue_mm.specs.Registration.{named, registered, registration_accepted, registration_rejected}
use Rattle.ue_mm.specs.SecurityMode.{command_completed, command_passed, command_repeated, is_acceptable, taken_into_use}
use Rattle.ue_mm.specs.Service.{service_accepted, service_rejected}
use Rattle.ue_mm.specs.State.{is_deregistering, open_registration}
use Rattle.ue_mm.specs.Transport.{transported}
use Rattle.ue_mm.specs.Work.{answer, status, tell}
use Rattle.ue_mm.specs.declared.acts.Act.{Act}
use Rattle.ue_mm.specs.declared.acts.Act.TheVariants.{Say, Tell}
use Rattle.ue_mm.specs.declared.authentication.Request.{Request}
use Rattle.ue_mm.specs.declared.outs.UeOut.TheVariants.{ToSession}
use Rattle.ue_mm.specs.declared.work.Work.{Work}

-- the passes that are told
abbrev pub told_in : Act → List Pass
told_in (Tell out) = passed_in out
told_in (Say fresh protection message) = []

pub onto_told : (acts : List Act) (act : Act) → flat_map told_in (acts ++ act ∷ []) ≡ flat_map told_in acts ++ told_in act
onto_told acts act = sym (flat_map_more told_in [] acts act)

pub record HasTold (passes : List Pass) (w : Work) : Type 0 where
  pub told : flat_map told_in w.acts ≡ passes

answer_tells : (ps : List Pass) (m : Mm) (w : Work) → HasTold ps w → HasTold ps (answer m w)
answer_tells ps m w h = record { told = simp (onto_told, append-nil, h.told) }

deregistered_tells : (ps : List Pass) (w : Work) → HasTold ps w → HasTold ps (deregistered w)
unfolding deregistered idle
deregistered_tells ps w h = record { told = simp (onto_told, append-nil, h.told) }

erased_tells : (ps : List Pass) (w : Work) → HasTold ps w → HasTold ps (erased (deregistered w))
unfolding erased
erased_tells ps w h = record { told = (deregistered_tells ps w h).told }

answered_tells : (ps : List Pass) (a : AutnAnswer) (r : Request) (w : Work) → HasTold ps w → HasTold ps (answered a r w)
answered_tells ps (Accepted n res ck ik ak) r w h = record { told = simp (onto_told, append-nil, h.told) }
answered_tells ps MacFailure r w h = answer_tells ps _ w h
answered_tells ps NotFiveG r w h = answer_tells ps _ w h
answered_tells ps (SynchFailure auts) r w h = answer_tells ps _ w h

challenged_tells : (ps : List Pass) (r : Request) (w : Work) → HasTold ps w → HasTold ps (challenged r w)
unfolding challenged
challenged_tells ps r w h =
    per_holds (λ (x : Work). HasTold ps x) (answer_again w.common.stored r) _ _
    (λ _. when_holds (λ (x : Work). HasTold ps x) (is_ksi_refused w.common.current r.ksi) (failure cause.NGKSI_ALREADY_IN_USE None w) _
    (λ _. answer_tells ps _ w h)
    (λ _. answered_tells ps (checked w.common.config.k w.common.config.opc r.rand r.autn w.common.sqn) r w h))
    (λ res_star _. answer_tells ps _ w h)

authentication_tells : (ps : List Pass) (m : AuthenticationRequest) (w : Work) → HasTold ps w → HasTold ps (authentication_requested m w)
unfolding authentication_requested
authentication_tells ps m w h =
    per_holds (λ (x : Work). HasTold ps x) m.rand (status cause.PROTOCOL_ERROR_UNSPECIFIED w) _
    (λ _. answer_tells ps _ w h)
    (λ rand _. per_holds (λ (x : Work). HasTold ps x) m.autn (status cause.PROTOCOL_ERROR_UNSPECIFIED w) _
    (λ _. answer_tells ps _ w h)
    (λ autn _. challenged_tells ps _ w h))

identity_tells : (ps : List Pass) (m : IdentityRequest) (w : Work) → HasTold ps w → HasTold ps (identity_requested m w)
unfolding identity_requested
identity_tells ps m w h =
    when_holds (λ (x : Work). HasTold ps x) (m.identity_type == 1) _ (status cause.PROTOCOL_ERROR_UNSPECIFIED w)
    (λ _. answer_tells ps _ w h) (λ _. answer_tells ps _ w h)

named_tells : (ps : List Pass) (guti : Option Guti) (w : Work) → HasTold ps w → HasTold ps (named guti w)
named_tells ps guti w h =
    per_holds (λ (x : Work). HasTold ps x) guti w _ (λ _. h) (λ g _. record { told = simp (onto_told, append-nil, h.told) })

registered_tells : (ps : List Pass) (sessions : Option (List Bool)) (w : Work) → HasTold ps w → HasTold ps (registered sessions w)
registered_tells ps sessions w h =
    per_holds (λ (x : Work). HasTold ps x) sessions _ _
    (λ _. record { told = simp (onto_told, append-nil, h.told) }) (λ held _. record { told = simp (onto_told, append-nil, h.told) })

registration_tells : (ps : List Pass) (m : RegistrationAccept) (w : Work) → HasTold ps w → HasTold ps (registration_accepted m w)
unfolding registration_accepted
registration_tells ps m w h =
    let begun = named_tells ps m.guti w h in
    per_holds (λ (x : Work). HasTold ps x) (open_registration w.phase) (named m.guti w) _
    (λ _. begun) (λ r _. registered_tells ps m.status (named m.guti w) begun)

rejection_tells : (ps : List Pass) (m : RegistrationReject) (w : Work) → HasTold ps w → HasTold ps (registration_rejected m w)
unfolding registration_rejected
rejection_tells ps m w h =
    when_holds (λ (x : Work). HasTold ps x) (m.cause == cause.ILLEGAL_UE || m.cause == cause.UE_IDENTITY_CANNOT_BE_DERIVED_BY_THE_NETWORK) _ _
    (λ _. erased_tells ps w h) (λ _. deregistered_tells ps w h)

service_tells : (ps : List Pass) (w : Work) → HasTold ps w → HasTold ps (service_accepted w)
unfolding service_accepted
service_tells ps w h = record { told = simp (onto_told, append-nil, h.told) }

service_rejection_tells : (ps : List Pass) (m : ServiceReject) (w : Work) → HasTold ps w → HasTold ps (service_rejected m w)
unfolding service_rejected
service_rejection_tells ps m w h =
    when_holds (λ (x : Work). HasTold ps x) (m.cause == cause.UE_IDENTITY_CANNOT_BE_DERIVED_BY_THE_NETWORK) _ _ (λ _. erased_tells ps w h)
    (λ _. when_holds (λ (x : Work). HasTold ps x) (m.cause == cause.IMPLICITLY_DEREGISTERED) _ _ (λ _. deregistered_tells ps w h)
    (λ _. service_tells ps w h))

deregistration_tells : (ps : List Pass) (w : Work) → HasTold ps w → HasTold ps (deregistration_requested w)
unfolding deregistration_requested
deregistration_tells ps w h =
    deregistered_tells ps (answer mm.DeregistrationAcceptUeTerminated w) (answer_tells ps mm.DeregistrationAcceptUeTerminated w h)

transport_tells : (ps : List Pass) (m : DlNasTransport) (w : Work) → HasTold ps w → HasTold ps (transported m w)
unfolding transported
transport_tells ps m w h =
    when_holds (λ (x : Work). HasTold ps x) (m.container_type == 1) _ w
    (λ _. per_holds (λ (x : Work). HasTold ps x) m.cause (tell (ToSession m.container) w) _
    (λ _. record { told = simp (onto_told, append-nil, h.told) }) (λ n _. record { told = simp (onto_told, append-nil, h.told) }))
    (λ _. h)

update_tells : (ps : List Pass) (m : ConfigurationUpdateCommand) (w : Work) → HasTold ps w → HasTold ps (configuration_updated m w)
unfolding configuration_updated
update_tells ps m w h =
    let begun : HasTold ps (renamed_by m.guti w) =
    per_holds (λ (x : Work). HasTold ps x) m.guti w _ (λ _. h) (λ g _. record { told = h.told }) in
    when_holds (λ (x : Work). HasTold ps x) (is_acknowledgement_requested m.indication) _ (renamed_by m.guti w)
    (λ _. answer_tells ps mm.ConfigurationUpdateComplete (renamed_by m.guti w) begun) (λ _. begun)

-- the row of each message
taken_tells : (ps : List Pass) (m : Mm) (w : Work) → HasTold ps w → HasTold ps (taken m w)
unfolding taken
taken_tells ps (mm.AuthenticationRequest m) w h = authentication_tells ps m w h
taken_tells ps mm.AuthenticationReject w h = erased_tells ps w h
taken_tells ps (mm.IdentityRequest m) w h = identity_tells ps m w h
taken_tells ps (mm.RegistrationAccept m) w h = registration_tells ps m w h
taken_tells ps (mm.RegistrationReject m) w h = rejection_tells ps m w h
taken_tells ps (mm.ServiceAccept m) w h = service_tells ps w h
taken_tells ps (mm.ServiceReject m) w h = service_rejection_tells ps m w h
taken_tells ps (mm.DeregistrationRequestUeTerminated m) w h = deregistration_tells ps w h
taken_tells ps mm.DeregistrationAcceptUeOriginating w h = deregistered_tells ps w h
taken_tells ps (mm.DlNasTransport m) w h = transport_tells ps m w h
taken_tells ps (mm.ConfigurationUpdateCommand m) w h = update_tells ps m w h
taken_tells ps (mm.SecurityModeCommand m) w h = h
taken_tells ps (mm.RegistrationRequest m) w h = h
taken_tells ps mm.RegistrationComplete w h = h
taken_tells ps (mm.DeregistrationRequestUeOriginating m) w h = h
taken_tells ps mm.DeregistrationAcceptUeTerminated w h = h
taken_tells ps (mm.ServiceRequest m) w h = h
taken_tells ps mm.ConfigurationUpdateComplete w h = h
taken_tells ps (mm.AuthenticationResponse m) w h = h
taken_tells ps (mm.AuthenticationFailure m) w h = h
taken_tells ps (mm.IdentityResponse m) w h = h
taken_tells ps (mm.SecurityModeComplete m) w h = h
taken_tells ps (mm.SecurityModeReject m) w h = h
taken_tells ps (mm.FiveGmmStatus m) w h = h
taken_tells ps (mm.UlNasTransport m) w h = h

-- a message that passed, and a plain one
by_table_tells : (ps : List Pass) (a : Action) (m : Mm) (w : Work) → HasTold ps w → HasTold ps (by_table a m w)
by_table_tells ps Take m w h = taken_tells ps m w h
by_table_tells ps Status98 m w h = answer_tells ps _ w h
by_table_tells ps Discard m w h = h
by_table_tells ps Status43 m w h = h
by_table_tells ps Status47 m w h = h

read_tells : (ps : List Pass) (read : Result Mm MmRefusal) (octets : List ℕ) (w : Work) → HasTold ps w
    → HasTold ps (passed_read read octets w)
read_tells ps (Ok m) octets w h = by_table_tells ps (action m w) m w h
read_tells ps (Err (refusals.Ignored at)) octets w h = h
read_tells ps (Err (refusals.UnknownType n)) octets w h = answer_tells ps _ w h
read_tells ps (Err (refusals.Mandatory n at)) octets w h =
    when_holds (λ (x : Work). HasTold ps x) (slice_index_or octets 2 0 == five_gmm_status) w (status cause.INVALID_MANDATORY_INFORMATION w)
    (λ _. h) (λ _. answer_tells ps _ w h)
read_tells ps (Err refusals.Memory) octets w h = h

pub passed_tells : (ps : List Pass) (octets : List ℕ) (w : Work) → HasTold ps w → HasTold ps (passed octets w)
unfolding passed
passed_tells ps octets w h = read_tells ps (mm_in octets) octets w h

plain_table_tells : (ps : List Pass) (a : Action) (m : Mm) (w : Work) → HasTold ps w → HasTold ps (plain_by_table a m w)
plain_table_tells ps Take m w h = taken_tells ps m w h
plain_table_tells ps Status98 m w h = h
plain_table_tells ps Discard m w h = h
plain_table_tells ps Status43 m w h = h
plain_table_tells ps Status47 m w h = h

pub plain_tells : (ps : List Pass) (read : Result Mm MmRefusal) (octets : List ℕ) (w : Work) → HasTold ps w
    → HasTold ps (plain_read read octets w)
plain_tells ps (Ok m) octets w h =
    when_holds (λ (x : Work). HasTold ps x) (is_plain_allowed m) (plain_by_table (action m w) m w) w
    (λ _. plain_table_tells ps (action m w) m w h) (λ _. h)
plain_tells ps (Err (refusals.Ignored at)) octets w h = h
plain_tells ps (Err (refusals.UnknownType n)) octets w h = answer_tells ps _ w h
plain_tells ps (Err (refusals.Mandatory n at)) octets w h =
    when_holds (λ (x : Work). HasTold ps x) (is_permitted_type (slice_index_or octets 2 0)) (status cause.INVALID_MANDATORY_INFORMATION w) w
    (λ _. answer_tells ps _ w h) (λ _. h)
plain_tells ps (Err refusals.Memory) octets w h = h

-- SECURITY MODE COMMAND
completed_tells : (ps : List Pass) (asi : Option Asi) (w : Work) → HasTold ps w → HasTold ps (command_completed asi w)
unfolding command_completed
completed_tells ps asi w h = record { told = simp (onto_told, append-nil, h.told) }

into_use_tells : (ps : List Pass) (command : SecurityModeCommand) (context : SecurityContext) (w : Work) → HasTold ps w
    → HasTold ps (taken_into_use command context w)
into_use_tells ps command context w h =
    completed_tells ps command.asi _ (record { told = simp (onto_told, append-nil, h.told) })

pub command_tells : (ps : List Pass) (command : SecurityModeCommand) (context : SecurityContext) (w : Work) → HasTold ps w
    → HasTold ps (command_passed command context w)
unfolding command_passed
command_tells ps command context w h =
    when_holds (λ (x : Work). HasTold ps x) (is_acceptable command w.common.config) (taken_into_use command context w) _
    (λ _. into_use_tells ps command context w h)
    (λ _. answer_tells ps _ (record w { common = record w.common { pending = None } }) (record { told = h.told }))

pub repeated_tells : (ps : List Pass) (command : SecurityModeCommand) (w : Work) → HasTold ps w → HasTold ps (command_repeated command w)
repeated_tells ps command w h =
    when_holds (λ (x : Work). HasTold ps x) (is_deregistering w.phase) w (command_completed command.asi w)
    (λ _. h) (λ _. completed_tells ps command.asi w h)
