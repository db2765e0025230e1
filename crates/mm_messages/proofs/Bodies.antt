-- What was read of a body, and what a message's pieces come to.
use Rattle.std.proofs.Common.{◌≡◌, ◌∙◌, ◌≤◌, length, Ok, Err, ap, subst, sym, arith, lit≤, refl}
use Rattle.nas_base.specs.Reading.{Place}
use Rattle.nas_base.specs.declared.mm_kind.MmKind.{MmKind}
use Rattle.nas_layout.proofs.TellingLaws.{counted_octets, many_refused}
use Rattle.nas_layout.specs.Answers.{Lays}
use Rattle.nas_layout.specs.declared.body.BodyRefusal.{BodyRefusal}
use Rattle.nas_layout.specs.declared.body.BodyRefusal.TheVariants.{Mandatory, Memory}
use Rattle.nas_layout.specs.Pieces.{pieces_octets}
use Rattle.nas_layout.specs.Sizes.{IsFull, Sum, counted}
use Rattle.nas_layout.specs.Telling.{RefusesOne, with_pieces}
use Rattle.mm_messages.specs.Authentication.{authentication_failure, authentication_request, authentication_response}
use Rattle.mm_messages.specs.ConfigurationUpdate.{configuration_update_command}
use Rattle.mm_messages.specs.Deregistration.{deregistration_request_ue_originating, deregistration_request_ue_terminated}
use Rattle.mm_messages.specs.Identification.{identity_request, identity_response}
use Rattle.mm_messages.specs.Registration.{registration_accept, registration_reject, registration_request}
use Rattle.mm_messages.specs.SecurityMode.{security_mode_command, security_mode_complete, security_mode_reject}
use Rattle.mm_messages.specs.Service.{service_accept, service_reject, service_request}
use Rattle.mm_messages.specs.StatusMessage.{five_gmm_status}
use Rattle.mm_messages.specs.Transport.{dl_nas_transport, ul_nas_transport}
use Rattle.mm_messages.specs.Bodies.{LaysBody}
use Rattle.mm_messages.specs.Messages.{pieces_of, tabled}
use Rattle.mm_messages.specs.declared.message.Mm.{Mm}
use Rattle.mm_messages.specs.declared.message.Mm.TheVariants as mm

-- a refusal of a body's reader is the message's
pub refused : (kind : MmKind) (p : Place) (e : BodyRefusal) → Lays (Err e) (tabled kind).table 1 p → LaysBody (Err e) kind p
refused kind p Memory h = h
refused kind p (Mandatory n at) h = rw h refl

-- what was read of a body is the message's
pub taken : (kind wanted : MmKind) (p : Place) (fields : (tabled wanted).Fields) → kind ≡ wanted → Lays (Ok fields) (tabled wanted).table 1 p
    → LaysBody (Ok ((tabled wanted).made fields)) kind p
taken kind wanted p fields is h = subst (λ (k : MmKind). LaysBody (Ok ((tabled wanted).made fields)) k p) (sym is) (rw h refl)

-- no message has many pieces
few_pieces : (message : Mm) → length (pieces_of message) ≤ 9
unfolding authentication_failure authentication_request authentication_response configuration_update_command deregistration_request_ue_originating deregistration_request_ue_terminated identity_request identity_response registration_accept registration_reject registration_request security_mode_command security_mode_complete security_mode_reject service_accept service_reject service_request five_gmm_status dl_nas_transport ul_nas_transport
few_pieces (mm.RegistrationRequest m) = lit≤ tt
few_pieces (mm.RegistrationAccept m) = lit≤ tt
few_pieces mm.RegistrationComplete = lit≤ tt
few_pieces (mm.RegistrationReject m) = lit≤ tt
few_pieces (mm.DeregistrationRequestUeOriginating m) = lit≤ tt
few_pieces mm.DeregistrationAcceptUeOriginating = lit≤ tt
few_pieces (mm.DeregistrationRequestUeTerminated m) = lit≤ tt
few_pieces mm.DeregistrationAcceptUeTerminated = lit≤ tt
few_pieces (mm.ServiceRequest m) = lit≤ tt
few_pieces (mm.ServiceReject m) = lit≤ tt
few_pieces (mm.ServiceAccept m) = lit≤ tt
few_pieces (mm.ConfigurationUpdateCommand m) = lit≤ tt
few_pieces mm.ConfigurationUpdateComplete = lit≤ tt
few_pieces (mm.AuthenticationRequest m) = lit≤ tt
few_pieces (mm.AuthenticationResponse m) = lit≤ tt
few_pieces mm.AuthenticationReject = lit≤ tt
few_pieces (mm.AuthenticationFailure m) = lit≤ tt
few_pieces (mm.IdentityRequest m) = lit≤ tt
few_pieces (mm.IdentityResponse m) = lit≤ tt
few_pieces (mm.SecurityModeCommand m) = lit≤ tt
few_pieces (mm.SecurityModeComplete m) = lit≤ tt
few_pieces (mm.SecurityModeReject m) = lit≤ tt
few_pieces (mm.FiveGmmStatus m) = lit≤ tt
few_pieces (mm.UlNasTransport m) = lit≤ tt
few_pieces (mm.DlNasTransport m) = lit≤ tt

abbrev pub nothing : Sum
nothing = record { octets = 0; pieces = 0 }

-- so none is too many,
pub none_too_many : (message : Mm) (start : Sum) → start ≡ nothing → RefusesOne counted IsFull start (pieces_of message) → ⊥
none_too_many message start is h =
    let many = many_refused start (pieces_of message) h in
    let few = few_pieces message in
    let none = ap (λ (s : Sum). s.pieces) is in absurd (omega arith)

-- and the sum is that of all.
pub sum_of_all : (message : Mm) (start sum : Sum) → start ≡ nothing → sum ≡ with_pieces counted start (pieces_of message)
    → sum.octets ≡ length (pieces_octets (pieces_of message))
sum_of_all message start sum is all =
    let total = ap (λ (s : Sum). s.octets) all ∙ counted_octets start (pieces_of message) in
    let none = ap (λ (s : Sum). s.octets) is in omega arith
