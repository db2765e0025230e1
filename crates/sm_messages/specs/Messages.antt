-- The messages of 5GSM, each by its table, and their way to octets and back (TS 24.501 clauses 7.2, 7.4, 7.5, 8.3 and 9.7).
use Rattle.std.specs.Prelude.{◌≡◌, ℕ, Bool, true, false, not, ◌&&◌, ◌==◌, nat_lt, List, [], ◌∷◌, ◌++◌, length, drop, slice_index, Option, Some, None, Result, Ok, Err, if◌then◌else◌}
use Rattle.nas_base.specs.Kinds.{sm_kind, sm_type}
use Rattle.nas_base.specs.Reading.{Place}
use Rattle.nas_base.specs.declared.sm_kind.SmKind.{SmKind}
use Rattle.nas_base.specs.declared.sm_kind.SmKind.TheVariants as kinds
use Rattle.nas_layout.specs.Pieces.{Piece, pieces_octets}
use Rattle.nas_layout.specs.Spelling.{Spells}
use Rattle.nas_layout.specs.Table.{Table, elements, keeps, laid, message, pieces}
use Rattle.nas_layout.specs.declared.body.BodyRefusal.{BodyRefusal}
use Rattle.nas_layout.specs.declared.body.BodyRefusal.TheVariants as body
use Rattle.sm_messages.specs.Establishment.{pdu_session_establishment_accept, pdu_session_establishment_reject, pdu_session_establishment_request}
use Rattle.sm_messages.specs.Modification.{pdu_session_modification_command, pdu_session_modification_command_reject, pdu_session_modification_reject, pdu_session_modification_request}
use Rattle.sm_messages.specs.Release.{pdu_session_release_command, pdu_session_release_complete, pdu_session_release_reject, pdu_session_release_request}
use Rattle.sm_messages.specs.StatusMessage.{five_gsm_status}
use Rattle.sm_messages.specs.KindOf.{kind_of}
use Rattle.sm_messages.specs.Parts.{head}
use Rattle.sm_messages.specs.declared.establishment.PduSessionEstablishmentAccept.{PduSessionEstablishmentAccept}
use Rattle.sm_messages.specs.declared.establishment.PduSessionEstablishmentReject.{PduSessionEstablishmentReject}
use Rattle.sm_messages.specs.declared.establishment.PduSessionEstablishmentRequest.{PduSessionEstablishmentRequest}
use Rattle.sm_messages.specs.declared.modification.PduSessionModificationCommand.{PduSessionModificationCommand}
use Rattle.sm_messages.specs.declared.modification.PduSessionModificationCommandReject.{PduSessionModificationCommandReject}
use Rattle.sm_messages.specs.declared.modification.PduSessionModificationReject.{PduSessionModificationReject}
use Rattle.sm_messages.specs.declared.modification.PduSessionModificationRequest.{PduSessionModificationRequest}
use Rattle.sm_messages.specs.declared.release.PduSessionReleaseCommand.{PduSessionReleaseCommand}
use Rattle.sm_messages.specs.declared.release.PduSessionReleaseComplete.{PduSessionReleaseComplete}
use Rattle.sm_messages.specs.declared.release.PduSessionReleaseReject.{PduSessionReleaseReject}
use Rattle.sm_messages.specs.declared.release.PduSessionReleaseRequest.{PduSessionReleaseRequest}
use Rattle.sm_messages.specs.declared.status_message.FiveGsmStatus.{FiveGsmStatus}
use Rattle.sm_messages.specs.declared.message.Sm.{Sm}
use Rattle.sm_messages.specs.declared.message.Sm.TheVariants as sm
use Rattle.sm_messages.specs.declared.message.SmFrame.{SmFrame}
use Rattle.sm_messages.specs.declared.message.SmRefusal.{SmRefusal}
use Rattle.sm_messages.specs.declared.message.SmRefusal.TheVariants.{Ignored, UnknownType, Mandatory, Memory}

-- a kind of message: its parts and elements, the table of these, and the message that they are
pub record Tabled : Type 1 where
  pub Fields : Type 0
  pub table : Table Fields
  pub made : Fields → Sm

-- a message of its head alone
abbrev pub head_alone : Sm → Tabled
head_alone m = record { Fields = Unit {0}; table = elements (message tt); made = λ nothing. m }

abbrev pub tabled : SmKind → Tabled
tabled kinds.PduSessionEstablishmentRequest = record { Fields = PduSessionEstablishmentRequest; table = pdu_session_establishment_request; made = λ m. sm.PduSessionEstablishmentRequest m }
tabled kinds.PduSessionEstablishmentAccept = record { Fields = PduSessionEstablishmentAccept; table = pdu_session_establishment_accept; made = λ m. sm.PduSessionEstablishmentAccept m }
tabled kinds.PduSessionEstablishmentReject = record { Fields = PduSessionEstablishmentReject; table = pdu_session_establishment_reject; made = λ m. sm.PduSessionEstablishmentReject m }
tabled kinds.PduSessionModificationRequest = record { Fields = PduSessionModificationRequest; table = pdu_session_modification_request; made = λ m. sm.PduSessionModificationRequest m }
tabled kinds.PduSessionModificationReject = record { Fields = PduSessionModificationReject; table = pdu_session_modification_reject; made = λ m. sm.PduSessionModificationReject m }
tabled kinds.PduSessionModificationCommand = record { Fields = PduSessionModificationCommand; table = pdu_session_modification_command; made = λ m. sm.PduSessionModificationCommand m }
tabled kinds.PduSessionModificationComplete = head_alone sm.PduSessionModificationComplete
tabled kinds.PduSessionModificationCommandReject = record { Fields = PduSessionModificationCommandReject; table = pdu_session_modification_command_reject; made = λ m. sm.PduSessionModificationCommandReject m }
tabled kinds.PduSessionReleaseRequest = record { Fields = PduSessionReleaseRequest; table = pdu_session_release_request; made = λ m. sm.PduSessionReleaseRequest m }
tabled kinds.PduSessionReleaseReject = record { Fields = PduSessionReleaseReject; table = pdu_session_release_reject; made = λ m. sm.PduSessionReleaseReject m }
tabled kinds.PduSessionReleaseCommand = record { Fields = PduSessionReleaseCommand; table = pdu_session_release_command; made = λ m. sm.PduSessionReleaseCommand m }
tabled kinds.PduSessionReleaseComplete = record { Fields = PduSessionReleaseComplete; table = pdu_session_release_complete; made = λ m. sm.PduSessionReleaseComplete m }
tabled kinds.FiveGsmStatus = record { Fields = FiveGsmStatus; table = five_gsm_status; made = λ m. sm.FiveGsmStatus m }

-- the pieces of a message behind its head, by its table
abbrev pub pieces_of : Sm → List Piece
pieces_of (sm.PduSessionEstablishmentRequest m) = pieces pdu_session_establishment_request m
pieces_of (sm.PduSessionEstablishmentAccept m) = pieces pdu_session_establishment_accept m
pieces_of (sm.PduSessionEstablishmentReject m) = pieces pdu_session_establishment_reject m
pieces_of (sm.PduSessionModificationRequest m) = pieces pdu_session_modification_request m
pieces_of (sm.PduSessionModificationReject m) = pieces pdu_session_modification_reject m
pieces_of (sm.PduSessionModificationCommand m) = pieces pdu_session_modification_command m
pieces_of sm.PduSessionModificationComplete = []
pieces_of (sm.PduSessionModificationCommandReject m) = pieces pdu_session_modification_command_reject m
pieces_of (sm.PduSessionReleaseRequest m) = pieces pdu_session_release_request m
pieces_of (sm.PduSessionReleaseReject m) = pieces pdu_session_release_reject m
pieces_of (sm.PduSessionReleaseCommand m) = pieces pdu_session_release_command m
pieces_of (sm.PduSessionReleaseComplete m) = pieces pdu_session_release_complete m
pieces_of (sm.FiveGsmStatus m) = pieces five_gsm_status m

-- a message as it is written under the identities in its head
abbrev pub spelled : ℕ → ℕ → Sm → List ℕ
spelled psi pti m = head psi pti (sm_type (kind_of m)) ++ pieces_octets (pieces_of m)

abbrev pub spelling : SmFrame → List ℕ
spelling frame = spelled frame.psi frame.pti frame.body

-- what was read of a message's parts and elements, as a reading of the message
abbrev pub as_message : {A : Type 0} → (A → Sm) → Result A BodyRefusal → Result Sm BodyRefusal
as_message made (Ok fields) = Ok (made fields)
as_message made (Err e) = Err e

-- the message of a kind that stands at a place
abbrev pub body_in : SmKind → Place → Result Sm BodyRefusal
body_in kind p = as_message (tabled kind).made (laid (tabled kind).table 1 p)

-- what was read behind the head, as a reading of the whole
abbrev pub told : ℕ → ℕ → Result Sm BodyRefusal → Result SmFrame SmRefusal
told psi pti (Ok m) = Ok (record { psi = psi; pti = pti; body = m })
told psi pti (Err (body.Mandatory n at)) = Err (Mandatory n at)
told psi pti (Err body.Memory) = Err Memory

-- what stands behind the head, by the message type
abbrev pub body_at : ℕ → ℕ → Option SmKind → ℕ → Place → Result SmFrame SmRefusal
body_at psi pti None code p = Err (UnknownType code)
body_at psi pti (Some kind) code p = told psi pti (body_in kind p)

-- the place behind the head
abbrev pub behind_head : List ℕ → Place
behind_head octets = record { at = 4; left = drop 4 octets }

-- The message in the octets. Those with another protocol discriminator, or too few for a message type, are no 5GSM message.
unfoldable pub sm_in : List ℕ → Result SmFrame SmRefusal
sm_in octets =
    if nat_lt 0 (length octets) && not (slice_index octets 0 == 0x2e) then Err (Ignored 0)
    else (if nat_lt (length octets) 4 then Err (Ignored (length octets))
    else body_at (slice_index octets 1) (slice_index octets 2) (sm_kind (slice_index octets 3)) (slice_index octets 3) (behind_head octets))

-- whether a part or an element behind the head is kept as its octets
abbrev pub keeps_at : Option SmKind → Place → Bool
keeps_at None p = false
keeps_at (Some kind) p = keeps (tabled kind).table 1 p

abbrev pub keeps_octets : List ℕ → Bool
keeps_octets octets = keeps_at (sm_kind (slice_index octets 3)) (behind_head octets)

-- what a decoder answered; memory may be wanting where a part or an element is kept as its octets, and only there
abbrev pub Decodes : Result SmFrame SmRefusal → List ℕ → Type 0
Decodes (Ok frame) octets = sm_in octets ≡ Ok frame
Decodes (Err Memory) octets = keeps_octets octets ≡ true
Decodes (Err (Ignored at)) octets = sm_in octets ≡ Err (Ignored at)
Decodes (Err (UnknownType n)) octets = sm_in octets ≡ Err (UnknownType n)
Decodes (Err (Mandatory n at)) octets = sm_in octets ≡ Err (Mandatory n at)

-- Octets spell a message: the protocol discriminator, its two identities, the type of a kind, and what its table says of the rest.
pub record SpellsFrame (octets : List ℕ) (frame : SmFrame) : Type 0 where
  pub kind : SmKind
  pub rest : List ℕ
  pub fields : (tabled kind).Fields
  pub whole : octets ≡ 0x2e ∷ frame.psi ∷ frame.pti ∷ sm_type kind ∷ rest
  pub body : Spells (tabled kind).table rest fields
  pub made : frame.body ≡ (tabled kind).made fields
