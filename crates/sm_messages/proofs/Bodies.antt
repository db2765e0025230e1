-- What was read of a body, and what a message's pieces come to.
use Rattle.std.proofs.Common.{◌≡◌, ◌∙◌, ◌≤◌, length, Ok, Err, ap, subst, sym, arith, lit≤}
use Rattle.nas_base.specs.Reading.{Place}
use Rattle.nas_base.specs.declared.sm_kind.SmKind.{SmKind}
use Rattle.nas_layout.proofs.TellingLaws.{counted_octets, many_refused}
use Rattle.nas_layout.specs.Answers.{Lays}
use Rattle.nas_layout.specs.Pieces.{pieces_octets}
use Rattle.nas_layout.specs.Sizes.{IsFull, Sum, counted}
use Rattle.nas_layout.specs.Telling.{RefusesOne, with_pieces}
use Rattle.nas_layout.specs.declared.body.BodyRefusal.{BodyRefusal}
use Rattle.nas_layout.specs.declared.body.BodyRefusal.TheVariants.{Mandatory, Memory}
use Rattle.sm_messages.specs.Bodies.{LaysBody}
use Rattle.sm_messages.specs.Establishment.{pdu_session_establishment_accept, pdu_session_establishment_reject, pdu_session_establishment_request}
use Rattle.sm_messages.specs.Modification.{pdu_session_modification_command, pdu_session_modification_command_reject, pdu_session_modification_reject, pdu_session_modification_request}
use Rattle.sm_messages.specs.Release.{pdu_session_release_command, pdu_session_release_complete, pdu_session_release_reject, pdu_session_release_request}
use Rattle.sm_messages.specs.StatusMessage.{five_gsm_status}
use Rattle.sm_messages.specs.Messages.{as_message, pieces_of, tabled}
use Rattle.sm_messages.specs.declared.message.Sm.{Sm}
use Rattle.sm_messages.specs.declared.message.Sm.TheVariants as sm

-- a refusal of a body's reader is the message's
pub refused : (kind : SmKind) (p : Place) (e : BodyRefusal) → Lays (Err e) (tabled kind).table 1 p → LaysBody (Err e) kind p
refused kind p Memory h = h
refused kind p (Mandatory n at) h = ap (as_message (tabled kind).made) h

-- what was read of a body is the message's
pub taken : (kind wanted : SmKind) (p : Place) (fields : (tabled wanted).Fields) → kind ≡ wanted → Lays (Ok fields) (tabled wanted).table 1 p
    → LaysBody (Ok ((tabled wanted).made fields)) kind p
taken kind wanted p fields is h =
    subst (λ (k : SmKind). LaysBody (Ok ((tabled wanted).made fields)) k p) (sym is) (ap (as_message (tabled wanted).made) h)

-- no message has many pieces
few_pieces : (message : Sm) → length (pieces_of message) ≤ 8
unfolding pdu_session_establishment_request pdu_session_establishment_accept pdu_session_establishment_reject pdu_session_modification_request pdu_session_modification_reject pdu_session_modification_command pdu_session_modification_command_reject pdu_session_release_request pdu_session_release_reject pdu_session_release_command pdu_session_release_complete five_gsm_status
few_pieces (sm.PduSessionEstablishmentRequest m) = lit≤ tt
few_pieces (sm.PduSessionEstablishmentAccept m) = lit≤ tt
few_pieces (sm.PduSessionEstablishmentReject m) = lit≤ tt
few_pieces (sm.PduSessionModificationRequest m) = lit≤ tt
few_pieces (sm.PduSessionModificationReject m) = lit≤ tt
few_pieces (sm.PduSessionModificationCommand m) = lit≤ tt
few_pieces sm.PduSessionModificationComplete = lit≤ tt
few_pieces (sm.PduSessionModificationCommandReject m) = lit≤ tt
few_pieces (sm.PduSessionReleaseRequest m) = lit≤ tt
few_pieces (sm.PduSessionReleaseReject m) = lit≤ tt
few_pieces (sm.PduSessionReleaseCommand m) = lit≤ tt
few_pieces (sm.PduSessionReleaseComplete m) = lit≤ tt
few_pieces (sm.FiveGsmStatus m) = lit≤ tt

abbrev pub nothing : Sum
nothing = record { octets = 0; pieces = 0 }

-- so none is too many,
pub none_too_many : (message : Sm) (start : Sum) → start ≡ nothing → RefusesOne counted IsFull start (pieces_of message) → ⊥
none_too_many message start is h =
    let many = many_refused start (pieces_of message) h in
    let few = few_pieces message in
    let none = ap (λ (s : Sum). s.pieces) is in absurd (omega arith)

-- and the sum is that of all.
pub sum_of_all : (message : Sm) (start sum : Sum) → start ≡ nothing → sum ≡ with_pieces counted start (pieces_of message)
    → sum.octets ≡ length (pieces_octets (pieces_of message))
sum_of_all message start sum is all =
    let total = ap (λ (s : Sum). s.octets) all ∙ counted_octets start (pieces_of message) in
    let none = ap (λ (s : Sum). s.octets) is in omega arith
