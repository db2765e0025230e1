-- What an AMF makes of octets that come up a link (TS 24.501 clauses 4.4.4.3 and 7).
use Rattle.std.specs.Prelude.{ℕ, Bool, false, not, ◌==◌, ◌||◌, List, Option, Some, None, Result, Ok, Err}
use Rattle.nas_base.specs.Branches.{per, when◌then◌else◌}
use Rattle.nas_base.specs.Kinds.{mm_kind}
use Rattle.nas_base.specs.declared.mm_cause.TheConstants as cause
use Rattle.collision_rules.specs.Mm.{collide_amf}
use Rattle.collision_rules.specs.Plain.{permitted_amf}
use Rattle.collision_rules.specs.declared.action.Action.{Action}
use Rattle.collision_rules.specs.declared.action.Action.TheVariants.{Take, Discard, Status98, Status43, Status47}
use Rattle.mm_entity.specs.Heads.{five_gmm_status, header_of, inside, is_mm, is_too_many, type_of}
use Rattle.mm_messages.specs.KindOf.{kind_of}
use Rattle.mm_messages.specs.Messages.{mm_in}
use Rattle.mm_messages.specs.declared.message.Mm.{Mm}
use Rattle.mm_messages.specs.declared.message.Mm.TheVariants as mm
use Rattle.mm_messages.specs.declared.message.MmRefusal.{MmRefusal}
use Rattle.mm_messages.specs.declared.message.MmRefusal.TheVariants as refusals
use Rattle.amf_core.specs.Acceptance.{registration_completed}
use Rattle.amf_core.specs.Authentication.{authentication_failed, responded}
use Rattle.amf_core.specs.Checks.{Passage, checked_in_use, checked_pending, noted}
use Rattle.amf_core.specs.ConfigurationUpdate.{update_completed}
use Rattle.amf_core.specs.Deregistration.{deregistration_accepted, deregistration_requested}
use Rattle.amf_core.specs.Identification.{identity_told}
use Rattle.amf_core.specs.Naming.{kept_for}
use Rattle.amf_core.specs.Registration.{registration_requested}
use Rattle.amf_core.specs.SecurityMode.{mode_completed, mode_rejected}
use Rattle.amf_core.specs.Service.{service_refused, service_requested}
use Rattle.amf_core.specs.State.{word_of}
use Rattle.amf_core.specs.Transport.{transported}
use Rattle.amf_core.specs.Work.{Work, link_of, put_link, status, subscriber_of_link}
use Rattle.amf_core.specs.declared.checks.Check.{Check}
use Rattle.amf_core.specs.declared.subscriber.Record.{Record}

-- The row of each message that passed and that the table of collisions takes.
unfoldable pub taken : ℕ → Check → Mm → Work → Work
taken link c (mm.RegistrationRequest m) w = registration_requested m link (Some c.subscriber.supi) w
taken link c mm.RegistrationComplete w = registration_completed c.challenge c.subscriber w
taken link c mm.ConfigurationUpdateComplete w = update_completed c.challenge c.subscriber w
taken link c (mm.DeregistrationRequestUeOriginating m) w = deregistration_requested m link c.subscriber w
taken link c mm.DeregistrationAcceptUeTerminated w = deregistration_accepted link c.subscriber w
taken link c (mm.ServiceRequest m) w = service_requested link c.subscriber w
taken link c (mm.AuthenticationResponse m) w = responded m link c.subscriber w
taken link c (mm.AuthenticationFailure m) w = authentication_failed m link c.subscriber w
taken link c (mm.IdentityResponse m) w = identity_told m link w
taken link c (mm.SecurityModeComplete m) w = when c.is_pending then mode_completed m link c.subscriber w else w
taken link c (mm.SecurityModeReject m) w = mode_rejected link c.subscriber w
taken link c (mm.UlNasTransport m) w = transported m link c.challenge c.subscriber w
taken link c (mm.RegistrationAccept m) w = w
taken link c (mm.RegistrationReject m) w = w
taken link c mm.DeregistrationAcceptUeOriginating w = w
taken link c (mm.DeregistrationRequestUeTerminated m) w = w
taken link c (mm.ServiceReject m) w = w
taken link c (mm.ServiceAccept m) w = w
taken link c (mm.ConfigurationUpdateCommand m) w = w
taken link c (mm.AuthenticationRequest m) w = w
taken link c mm.AuthenticationReject w = w
taken link c (mm.IdentityRequest m) w = w
taken link c (mm.SecurityModeCommand m) w = w
taken link c (mm.FiveGmmStatus m) w = w
taken link c (mm.DlNasTransport m) w = w

-- A message that passed goes by the table of collisions.
abbrev pub by_table : Action → ℕ → Check → Mm → Work → Work
by_table Take link c message w = taken link c message w
by_table Status98 link c message w = status link cause.MESSAGE_TYPE_NOT_COMPATIBLE_WITH_THE_PROTOCOL_STATE w
by_table Discard link c message w = w
by_table Status43 link c message w = w
by_table Status47 link c message w = w

abbrev pub action : Mm → Record → Action
action message s = collide_amf (word_of s) s.registered (kind_of message)

-- STATUS answers a type that isn't known, and a mandatory part that is cut or wrong; 5GMM STATUS is never answered
-- (clauses 7.4 and 7.5.1)
abbrev pub faulty : ℕ → List ℕ → Work → Work
faulty link octets w =
    when type_of octets == five_gmm_status then w else status link cause.INVALID_MANDATORY_INFORMATION w

abbrev pub passed_read : Result Mm MmRefusal → List ℕ → ℕ → Check → Work → Work
passed_read (Ok message) octets link c w = by_table (action message c.subscriber) link c message w
passed_read (Err (refusals.Ignored at)) octets link c w = w
passed_read (Err (refusals.UnknownType n)) octets link c w = status link cause.MESSAGE_TYPE_NON_EXISTENT_OR_NOT_IMPLEMENTED w
passed_read (Err (refusals.Mandatory n at)) octets link c w = faulty link octets w
passed_read (Err refusals.Memory) octets link c w = w

unfoldable pub passed : ℕ → List ℕ → Check → Work → Work
passed link octets c w = passed_read (mm_in octets) octets link c (noted link c w)

abbrev pub passing : ℕ → Passage → Work → Work
passing link p w = passed link p.message p.check w

-- The plain messages that are taken before secure exchange: those of the table. They have the rows of the subscriber that the link last
-- passed or challenged. A SERVICE REQUEST that didn't pass is rejected.
abbrev pub of_link : ℕ → (Record → Work → Work) → Work → Work
of_link link row w = per (subscriber_of_link link w) w (λ (s : Record). row s w)

unfoldable pub taken_plain : ℕ → Mm → Work → Work
taken_plain link (mm.RegistrationRequest m) w = registration_requested m link None w
taken_plain link (mm.ServiceRequest m) w = service_refused link w
taken_plain link (mm.IdentityResponse m) w = identity_told m link w
taken_plain link (mm.AuthenticationResponse m) w = of_link link (responded m link) w
taken_plain link (mm.AuthenticationFailure m) w = of_link link (authentication_failed m link) w
taken_plain link (mm.SecurityModeReject m) w = of_link link (mode_rejected link) w
taken_plain link mm.DeregistrationAcceptUeTerminated w = of_link link (deregistration_accepted link) w
taken_plain link mm.RegistrationComplete w = w
taken_plain link (mm.DeregistrationRequestUeOriginating m) w = w
taken_plain link (mm.SecurityModeComplete m) w = w
taken_plain link (mm.UlNasTransport m) w = w
taken_plain link (mm.RegistrationAccept m) w = w
taken_plain link (mm.RegistrationReject m) w = w
taken_plain link mm.DeregistrationAcceptUeOriginating w = w
taken_plain link (mm.DeregistrationRequestUeTerminated m) w = w
taken_plain link (mm.ServiceReject m) w = w
taken_plain link (mm.ServiceAccept m) w = w
taken_plain link (mm.ConfigurationUpdateCommand m) w = w
taken_plain link mm.ConfigurationUpdateComplete w = w
taken_plain link (mm.AuthenticationRequest m) w = w
taken_plain link mm.AuthenticationReject w = w
taken_plain link (mm.IdentityRequest m) w = w
taken_plain link (mm.SecurityModeCommand m) w = w
taken_plain link (mm.FiveGmmStatus m) w = w
taken_plain link (mm.DlNasTransport m) w = w

abbrev pub is_permitted_type : ℕ → Bool
is_permitted_type code = per (mm_kind code) false permitted_amf

abbrev pub plain_read : Result Mm MmRefusal → ℕ → List ℕ → Work → Work
plain_read (Ok message) link octets w = when permitted_amf (kind_of message) then taken_plain link message w else w
plain_read (Err (refusals.Ignored at)) link octets w = w
plain_read (Err (refusals.UnknownType n)) link octets w = status link cause.MESSAGE_TYPE_NON_EXISTENT_OR_NOT_IMPLEMENTED w
plain_read (Err (refusals.Mandatory n at)) link octets w =
    when is_permitted_type (type_of octets) then status link cause.INVALID_MANDATORY_INFORMATION w else w
plain_read (Err refusals.Memory) link octets w = w

unfoldable pub plain : ℕ → List ℕ → Work → Work
plain link octets w = when (link_of link w).secure then w else plain_read (mm_in octets) link octets w

-- A frame of header type 1 isn't ciphered, so that a request inside tells who sent it: a REGISTRATION, SERVICE or DEREGISTRATION REQUEST
-- that names a kept identity is checked for that subscriber. Any other frame is checked for the subscriber of its link.
abbrev pub message_of : Result Mm MmRefusal → Option Mm
message_of (Ok message) = Some message
message_of (Err refusal) = None

abbrev pub named_inside : Option Mm → Work → Option Record
named_inside (Some (mm.RegistrationRequest m)) w = kept_for m.identity w
named_inside (Some (mm.ServiceRequest m)) w = kept_for m.identity w
named_inside (Some (mm.DeregistrationRequestUeOriginating m)) w = kept_for m.identity w
named_inside message w = None

abbrev pub sender : ℕ → Option Mm → Work → Option Record
sender link message w = per (named_inside message w) (subscriber_of_link link w) (λ (s : Record). Some s)

-- One that fails is discarded on a secure link. On any other a REGISTRATION REQUEST inside is taken as one that didn't pass, and a SERVICE
-- REQUEST is rejected.
abbrev pub failed_request : ℕ → Mm → Work → Work
failed_request link (mm.RegistrationRequest m) w = registration_requested m link None w
failed_request link (mm.ServiceRequest m) w = service_refused link w
failed_request link message w = w

abbrev pub failed : ℕ → Option Mm → Work → Work
failed link message w =
    when (link_of link w).secure then w else per message w (λ (m : Mm). failed_request link m w)

abbrev pub check_of : Option Record → ℕ → List ℕ → Option Passage
check_of s link octets = per s None (λ (x : Record). checked_in_use link octets x)

abbrev pub integrity_protected_with : Option Mm → ℕ → List ℕ → Work → Work
integrity_protected_with message link octets w =
    per (check_of (sender link message w) link octets) (failed link message w) (λ (p : Passage). passing link p w)

unfoldable pub integrity_protected : ℕ → List ℕ → Work → Work
integrity_protected link octets w = integrity_protected_with (message_of (mm_in (inside octets))) link octets w

-- header type 2
unfoldable pub ciphered : ℕ → List ℕ → Work → Work
ciphered link octets w =
    per (check_of (subscriber_of_link link w) link octets) w (λ (p : Passage). passing link p w)

-- header type 4: under the context that was commanded on this link, then under the one in use
abbrev pub ciphered_for : ℕ → List ℕ → Record → Work → Work
ciphered_for link octets s w = per (checked_in_use link octets s) w (λ (p : Passage). passing link p w)

abbrev pub under_either : ℕ → List ℕ → Record → Work → Work
under_either link octets s w =
    per (checked_pending link octets s) (ciphered_for link octets s w) (λ (p : Passage). passing link p w)

unfoldable pub under_new_context : ℕ → List ℕ → Work → Work
under_new_context link octets w = per (subscriber_of_link link w) w (λ (s : Record). under_either link octets s w)

unfoldable pub received : ℕ → List ℕ → Work → Work
received link octets w =
    when not (is_mm octets) || is_too_many octets then w
    else (when header_of octets == 0 then plain link octets w
    else (when header_of octets == 1 then integrity_protected link octets w
    else (when header_of octets == 2 then ciphered link octets w
    else (when header_of octets == 4 then under_new_context link octets w else w))))

-- The first message of a connection finds its link not secure, whatever its octets are.
unfoldable pub freshened : Bool → ℕ → Work → Work
freshened fresh link w = when fresh then put_link (record (link_of link w) { secure = false }) w else w

abbrev pub brought_up : ℕ → Bool → List ℕ → Work → Work
brought_up link fresh octets w = received link octets (freshened fresh link w)
