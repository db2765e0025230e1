-- What a handset's sessions make of octets that reach them.
use Rattle.std.specs.Prelude.{ℕ, ◌==◌, List, slice_index_or, Result, Ok, Err}
use Rattle.nas_base.specs.Branches.{per, when◌then◌else◌}
use Rattle.nas_base.specs.Values.{psi_from}
use Rattle.nas_base.specs.declared.sm_cause.TheConstants as cause
use Rattle.collision_rules.specs.Sm.{collide_sm}
use Rattle.collision_rules.specs.declared.action.Action.{Action}
use Rattle.collision_rules.specs.declared.action.Action.TheVariants.{Take, Discard, Status98, Status43, Status47}
use Rattle.sm_messages.specs.KindOf.{kind_of}
use Rattle.sm_messages.specs.Messages.{sm_in}
use Rattle.sm_messages.specs.declared.message.Sm.{Sm}
use Rattle.sm_messages.specs.declared.message.Sm.TheVariants as sm
use Rattle.sm_messages.specs.declared.message.SmFrame.{SmFrame}
use Rattle.sm_messages.specs.declared.message.SmRefusal.{SmRefusal}
use Rattle.sm_messages.specs.declared.message.SmRefusal.TheVariants.{Ignored, UnknownType, Mandatory, Memory}
use Rattle.ue_sm.specs.Cells.{pti_case, word_of}
use Rattle.ue_sm.specs.Establishment.{establishment_accepted, establishment_rejected}
use Rattle.ue_sm.specs.Modification.{modification_rejected}
use Rattle.ue_sm.specs.NetworkCommands.{answer_with, mismatched, modification_commanded, release_commanded, same_answer}
use Rattle.ue_sm.specs.Release.{release_rejected}
use Rattle.ue_sm.specs.Work.{cell, status}
use Rattle.ue_sm.specs.declared.cells.Answer.{Answer}
use Rattle.ue_sm.specs.declared.cells.Cell.{Cell}
use Rattle.ue_sm.specs.declared.work.Work.{Work}

-- the row of a message that the table takes
unfoldable pub taken : ℕ → ℕ → Sm → Work → Work
taken psi pti (sm.PduSessionEstablishmentAccept m) w = establishment_accepted psi pti m w
taken psi pti (sm.PduSessionEstablishmentReject m) w = establishment_rejected psi w
taken psi pti (sm.PduSessionModificationCommand m) w = modification_commanded psi pti m w
taken psi pti (sm.PduSessionModificationReject m) w = modification_rejected psi m.cause w
taken psi pti (sm.PduSessionReleaseCommand m) w = release_commanded psi pti w
taken psi pti (sm.PduSessionReleaseReject m) w = release_rejected psi m.cause w
taken psi pti (sm.PduSessionEstablishmentRequest m) w = w
taken psi pti (sm.PduSessionModificationRequest m) w = w
taken psi pti sm.PduSessionModificationComplete w = w
taken psi pti (sm.PduSessionModificationCommandReject m) w = w
taken psi pti (sm.PduSessionReleaseRequest m) w = w
taken psi pti (sm.PduSessionReleaseComplete m) w = w
taken psi pti (sm.FiveGsmStatus m) w = w

-- a message by the table of its kind, its transaction and the session's state
abbrev pub action : ℕ → Sm → Cell → Action
action pti message c = collide_sm (word_of c) (kind_of message) (pti_case pti c)

abbrev pub by_action : Action → ℕ → ℕ → Sm → Work → Work
by_action Take psi pti message w = taken psi pti message w
by_action Discard psi pti message w = w
by_action Status98 psi pti message w = status psi pti cause.MESSAGE_TYPE_NOT_COMPATIBLE_WITH_THE_PROTOCOL_STATE w
by_action Status43 psi pti message w = status psi pti cause.INVALID_PDU_SESSION_IDENTITY w
by_action Status47 psi pti message w = mismatched psi pti message w

-- A command that is equal to the last that the session answered gets the same
-- answer; every other message goes by the table.
unfoldable pub received : ℕ → ℕ → Sm → Work → Work
received psi pti message w =
    per (same_answer pti message (cell psi w)) (by_action (action pti message (cell psi w)) psi pti message w)
    (λ (answer : Answer). answer_with psi pti answer w)

-- an octet, 0 where there is none
abbrev pub octet_at : List ℕ → ℕ → ℕ
octet_at octets index = slice_index_or octets index 0

-- the message type of 5GSM STATUS, which is never answered (clause 7.5.1)
abbrev pub five_gsm_status : ℕ
five_gsm_status = 0xd6

-- What the octets read as. A message of an unknown type, or whose mandatory part is wrong, is answered
-- with 5GSM STATUS (clauses 7.4 and 7.5.1).
abbrev pub read : Result SmFrame SmRefusal → ℕ → List ℕ → Work → Work
read (Ok frame) psi octets w = received psi frame.pti frame.body w
read (Err (Ignored at)) psi octets w = w
read (Err (UnknownType n)) psi octets w =
    status psi (octet_at octets 2) cause.MESSAGE_TYPE_NON_EXISTENT_OR_NOT_IMPLEMENTED w
read (Err (Mandatory n at)) psi octets w =
    when octet_at octets 3 == five_gsm_status then w
    else status psi (octet_at octets 2) cause.INVALID_MANDATORY_INFORMATION w
read (Err Memory) psi octets w = w

-- Octets that name no session are passed over (clause 7.3.2).
unfoldable pub delivered : List ℕ → Work → Work
delivered octets w = per (psi_from (octet_at octets 1)) w (λ (psi : ℕ). read (sm_in octets) psi octets w)
