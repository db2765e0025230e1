-- What a handset makes of octets that reach it (TS 24.501 clauses 4.4.4.2 and 7).
use Rattle.std.specs.Prelude.{ℕ, Bool, false, not, ◌==◌, ◌||◌, List, nat_lt, Option, Some, None, Result, Ok, Err}
use Rattle.nas_base.specs.declared.count.Dir.TheVariants.{Down}
use Rattle.nas_base.specs.Branches.{per, when◌then◌else◌}
use Rattle.nas_base.specs.Kinds.{mm_kind}
use Rattle.nas_base.specs.declared.mm_cause.TheConstants as cause
use Rattle.collision_rules.specs.Mm.{collide_mm}
use Rattle.collision_rules.specs.Plain.{permitted_ue}
use Rattle.collision_rules.specs.declared.action.Action.{Action}
use Rattle.collision_rules.specs.declared.action.Action.TheVariants.{Take, Discard, Status98, Status43, Status47}
use Rattle.mm_entity.specs.Heads.{five_gmm_status, header_of, inside, is_too_many, type_of}
use Rattle.mm_entity.specs.Opening.{Opened, opened}
use Rattle.nas_security.specs.Contexts.{SecurityContext}
use Rattle.mm_messages.specs.KindOf.{kind_of}
use Rattle.mm_messages.specs.Messages.{mm_in}
use Rattle.mm_messages.specs.declared.message.Mm.{Mm}
use Rattle.mm_messages.specs.declared.message.Mm.TheVariants as mm
use Rattle.mm_messages.specs.declared.message.MmRefusal.{MmRefusal}
use Rattle.mm_messages.specs.declared.message.MmRefusal.TheVariants as refusals
use Rattle.mm_messages.specs.declared.security_mode.SecurityModeCommand.{SecurityModeCommand}
use Rattle.ue_mm.specs.Authentication.{authentication_requested}
use Rattle.ue_mm.specs.Checks.{counted}
use Rattle.ue_mm.specs.ConfigurationUpdate.{configuration_updated}
use Rattle.ue_mm.specs.Connection.{deregistered, erased}
use Rattle.ue_mm.specs.Deregistration.{deregistration_requested}
use Rattle.ue_mm.specs.Identification.{identity_requested}
use Rattle.ue_mm.specs.Registration.{registration_accepted, registration_rejected}
use Rattle.ue_mm.specs.SecurityMode.{security_mode_commanded}
use Rattle.ue_mm.specs.Service.{service_accepted, service_rejected}
use Rattle.ue_mm.specs.State.{word_of}
use Rattle.ue_mm.specs.Transport.{transported}
use Rattle.ue_mm.specs.Work.{status}
use Rattle.ue_mm.specs.declared.work.Work.{Work}

-- The row of each message that the table of collisions takes. SECURITY MODE COMMAND has its row under header type 3 alone.
unfoldable pub taken : Mm → Work → Work
taken (mm.AuthenticationRequest m) w = authentication_requested m w
taken mm.AuthenticationReject w = erased (deregistered w)
taken (mm.IdentityRequest m) w = identity_requested m w
taken (mm.RegistrationAccept m) w = registration_accepted m w
taken (mm.RegistrationReject m) w = registration_rejected m w
taken (mm.ServiceAccept m) w = service_accepted w
taken (mm.ServiceReject m) w = service_rejected m w
taken (mm.DeregistrationRequestUeTerminated m) w = deregistration_requested w
taken mm.DeregistrationAcceptUeOriginating w = deregistered w
taken (mm.DlNasTransport m) w = transported m w
taken (mm.ConfigurationUpdateCommand m) w = configuration_updated m w
taken (mm.SecurityModeCommand m) w = w
taken (mm.RegistrationRequest m) w = w
taken mm.RegistrationComplete w = w
taken (mm.DeregistrationRequestUeOriginating m) w = w
taken mm.DeregistrationAcceptUeTerminated w = w
taken (mm.ServiceRequest m) w = w
taken mm.ConfigurationUpdateComplete w = w
taken (mm.AuthenticationResponse m) w = w
taken (mm.AuthenticationFailure m) w = w
taken (mm.IdentityResponse m) w = w
taken (mm.SecurityModeComplete m) w = w
taken (mm.SecurityModeReject m) w = w
taken (mm.FiveGmmStatus m) w = w
taken (mm.UlNasTransport m) w = w

abbrev pub action : Mm → Work → Action
action message w = collide_mm (word_of w.phase) (kind_of message)

-- STATUS 97 and 96 answer a type that isn't known, and a mandatory part that is cut or wrong; 5GMM STATUS is never answered
-- (clauses 7.4 and 7.5.1)
abbrev pub faulty : List ℕ → Work → Work
faulty octets w = when type_of octets == five_gmm_status then w else status cause.INVALID_MANDATORY_INFORMATION w

-- A message that passed goes by the table.
abbrev pub by_table : Action → Mm → Work → Work
by_table Take message w = taken message w
by_table Status98 message w = status cause.MESSAGE_TYPE_NOT_COMPATIBLE_WITH_THE_PROTOCOL_STATE w
by_table Discard message w = w
by_table Status43 message w = w
by_table Status47 message w = w

abbrev pub passed_read : Result Mm MmRefusal → List ℕ → Work → Work
passed_read (Ok message) octets w = by_table (action message w) message w
passed_read (Err (refusals.Ignored at)) octets w = w
passed_read (Err (refusals.UnknownType n)) octets w = status cause.MESSAGE_TYPE_NON_EXISTENT_OR_NOT_IMPLEMENTED w
passed_read (Err (refusals.Mandatory n at)) octets w = faulty octets w
passed_read (Err refusals.Memory) octets w = w

unfoldable pub passed : List ℕ → Work → Work
passed octets w = passed_read (mm_in octets) octets w

-- The plain messages that are taken before secure exchange (clause 4.4.4.2): those of the table, an IDENTITY REQUEST where it asks
-- for the SUCI, and a reject unless its cause is from 72 to 86, which is a choice of this project.
abbrev pub may_reject : ℕ → Bool
may_reject n = nat_lt n 72 || nat_lt 86 n

abbrev pub is_plain_allowed : Mm → Bool
is_plain_allowed (mm.IdentityRequest m) = m.identity_type == 1
is_plain_allowed (mm.RegistrationReject m) = may_reject m.cause
is_plain_allowed (mm.ServiceReject m) = may_reject m.cause
is_plain_allowed message = permitted_ue (kind_of message)

-- Where the table says STATUS 98, a plain message is discarded.
abbrev pub plain_by_table : Action → Mm → Work → Work
plain_by_table Take message w = taken message w
plain_by_table Status98 message w = w
plain_by_table Discard message w = w
plain_by_table Status43 message w = w
plain_by_table Status47 message w = w

abbrev pub is_permitted_type : ℕ → Bool
is_permitted_type code = per (mm_kind code) false permitted_ue

abbrev pub plain_message : Mm → Work → Work
plain_message message w = when is_plain_allowed message then plain_by_table (action message w) message w else w

abbrev pub plain_read : Result Mm MmRefusal → List ℕ → Work → Work
plain_read (Ok message) octets w = plain_message message w
plain_read (Err (refusals.Ignored at)) octets w = w
plain_read (Err (refusals.UnknownType n)) octets w = status cause.MESSAGE_TYPE_NON_EXISTENT_OR_NOT_IMPLEMENTED w
plain_read (Err (refusals.Mandatory n at)) octets w =
    when is_permitted_type (type_of octets) then status cause.INVALID_MANDATORY_INFORMATION w else w
plain_read (Err refusals.Memory) octets w = w

unfoldable pub plain : List ℕ → Work → Work
plain octets w = when w.common.secure then w else plain_read (mm_in octets) octets w

-- a frame of header type 3, by the command inside
abbrev pub command_of : Result Mm MmRefusal → Option SecurityModeCommand
command_of (Ok (mm.SecurityModeCommand m)) = Some m
command_of read = None

abbrev pub command_inside : Option SecurityModeCommand → List ℕ → Work → Work
command_inside command octets w = per command w (λ (c : SecurityModeCommand). security_mode_commanded c octets w)

unfoldable pub new_context : List ℕ → Work → Work
new_context octets w = command_inside (command_of (mm_in (inside octets))) octets w

-- a frame of header type 1, 2 or 4, under the current context
abbrev pub frame_under_current : SecurityContext → List ℕ → Work → Work
frame_under_current context octets w =
    per (opened context Down octets) w (λ (o : Opened). passed o.message (counted context o.count w))

unfoldable pub protected : List ℕ → Work → Work
protected octets w = per w.common.current w (λ (context : SecurityContext). frame_under_current context octets w)

-- A handset without a connection ignores all octets, and every handset those that are more than 4,096. A plain message and
-- one of header type 3 are told by their second octet; all others are checked under the current context.
unfoldable pub delivered : List ℕ → Work → Work
delivered octets w =
    when not w.common.connected || is_too_many octets then w
    else (when header_of octets == 0 then plain octets w
    else (when header_of octets == 3 then new_context octets w
    else protected octets w))
