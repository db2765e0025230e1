-- Registration (TS 24.501 clauses 5.5.1.2 and 5.5.1.3).
use Rattle.std.specs.Prelude.{Bool, ◌==◌, ◌||◌, List, Option, Some, None}
use Rattle.nas_base.specs.Branches.{per, when◌then◌else◌}
use Rattle.nas_base.specs.declared.mm_cause.TheConstants as cause
use Rattle.nas_base.specs.declared.kind.Kind.{Kind}
use Rattle.nas_base.specs.declared.kind.Kind.TheVariants as kinds
use Rattle.nas_elements.specs.declared.guti.Guti.{Guti}
use Rattle.nas_timers.specs.declared.timer_id.TimerId.TheVariants.{T3510, T3516}
use Rattle.mm_messages.specs.declared.message.Mm.{Mm}
use Rattle.mm_messages.specs.declared.message.Mm.TheVariants as mm
use Rattle.mm_messages.specs.declared.registration.RegistrationAccept.{RegistrationAccept}
use Rattle.mm_messages.specs.declared.registration.RegistrationReject.{RegistrationReject}
use Rattle.mm_messages.specs.declared.registration.RegistrationType.{RegistrationType}
use Rattle.mm_messages.specs.declared.registration.RegistrationType.TheVariants.{Initial, Mobility, Periodic}
use Rattle.ue_mm.specs.Config.{HandsetValues}
use Rattle.ue_mm.specs.Connection.{connected, deregistered, erased, idle}
use Rattle.ue_mm.specs.Identification.{identity_of, ksi_of, renamed}
use Rattle.ue_mm.specs.State.{open_registration}
use Rattle.ue_mm.specs.Work.{answer, request, start, stop, tell}
use Rattle.ue_mm.specs.declared.outs.UeOut.TheVariants.{Keep}
use Rattle.ue_mm.specs.declared.procedures.Phase.{Phase}
use Rattle.ue_mm.specs.declared.procedures.Phase.TheVariants.{Deregistered, Registering, Registered}
use Rattle.ue_mm.specs.declared.procedures.Registration.{Registration}
use Rattle.ue_mm.specs.declared.work.Work.{Work}

abbrev pub type_of : Kind → RegistrationType
type_of kinds.Initial = Initial
type_of kinds.Mobility = Mobility
type_of kinds.Periodic = Periodic

-- REGISTRATION REQUEST, with the sessions that are told, if any
abbrev pub registration_request : HandsetValues → Registration → Option (List Bool) → Mm
registration_request config r sessions = mm.RegistrationRequest (record {
  registration = type_of r.kind;
  ksi = r.ksi;
  identity = identity_of config r.guti;
  capability = Some config.capability;
  status = sessions;
})

-- the sessions that the whole request tells: none in an initial registration
abbrev pub told_sessions : Kind → List Bool → Option (List Bool)
told_sessions kinds.Initial held = None
told_sessions kinds.Mobility held = Some held
told_sessions kinds.Periodic held = Some held

-- The command. By itself the request is sent without the sessions (clause 4.4.6); the whole of it goes into SECURITY MODE COMPLETE.
abbrev pub began : Kind → Work → Registration
began kind w = record { kind = kind; ksi = ksi_of w.common.current; guti = w.common.guti }

abbrev pub registering : Registration → Work → Work
registering r w = start T3510 (record (connected (request (registration_request w.common.config r None) w)) { phase = Registering r })

unfoldable pub register : Kind → Work → Work
register kind w = registering (began kind w) w

-- REGISTRATION ACCEPT: a 5G-GUTI in it is taken and its taking confirmed; in a registration the procedure ends, and where the
-- network tells sessions, all others are no more.
abbrev pub named : Option Guti → Work → Work
named guti w = per guti w (λ (g : Guti). answer mm.RegistrationComplete (renamed g w))

abbrev pub kept : Option (List Bool) → Work → Work
kept sessions w = per sessions w (λ (held : List Bool). tell (Keep held) w)

abbrev pub registered : Option (List Bool) → Work → Work
registered sessions w = kept sessions (record (stop T3516 (stop T3510 w)) { phase = Registered })

unfoldable pub registration_accepted : RegistrationAccept → Work → Work
registration_accepted m w =
    per (open_registration w.phase) (named m.guti w) (λ (r : Registration). registered m.status (named m.guti w))

-- REGISTRATION REJECT: of an illegal UE, and where the UE identity cannot be derived, nothing of the network's is kept
unfoldable pub registration_rejected : RegistrationReject → Work → Work
registration_rejected m w =
    when m.cause == cause.ILLEGAL_UE || m.cause == cause.UE_IDENTITY_CANNOT_BE_DERIVED_BY_THE_NETWORK then erased (deregistered w)
    else deregistered w

-- the procedure ends without an answer: back to where it began
abbrev pub phase_before : Kind → Phase
phase_before kinds.Initial = Deregistered
phase_before kinds.Mobility = Registered
phase_before kinds.Periodic = Registered

unfoldable pub registration_left : Kind → Work → Work
registration_left kind w = idle (record w { phase = phase_before kind })
