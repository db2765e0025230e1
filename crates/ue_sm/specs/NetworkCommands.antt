-- The commands of the network: PDU SESSION MODIFICATION COMMAND (TS 24.501 clause 6.3.2) and
-- PDU SESSION RELEASE COMMAND (clause 6.3.3).
use Rattle.std.specs.Prelude.{ℕ, Bool, true, false, ◌==◌, ◌&&◌, List, Option, Some, None, Result, Ok, Err}
use Rattle.std.specs.Str.{bytes_eq}
use Rattle.nas_base.specs.Branches.{per, when◌then◌else◌}
use Rattle.nas_base.specs.declared.sm_cause.TheConstants as cause
use Rattle.nas_elements.specs.declared.ambr.Ambr.{Ambr}
use Rattle.nas_qos.specs.Rules.{QosRule}
use Rattle.sm_messages.specs.Session.{SessionValues}
use Rattle.sm_messages.specs.declared.message.Sm.{Sm}
use Rattle.sm_messages.specs.declared.message.Sm.TheVariants as sm
use Rattle.sm_messages.specs.declared.modification.PduSessionModificationCommand.{PduSessionModificationCommand}
use Rattle.ue_sm.specs.Cells.{answering, completed, refused, session_of}
use Rattle.ue_sm.specs.Rules.{ruled}
use Rattle.ue_sm.specs.Work.{cell, ended, put, say}
use Rattle.ue_sm.specs.declared.cells.Answer.{Answer}
use Rattle.ue_sm.specs.declared.cells.Answer.TheVariants.{Complete, Refused, Mismatch}
use Rattle.ue_sm.specs.declared.cells.Answered.{Answered}
use Rattle.ue_sm.specs.declared.cells.Cell.{Cell}
use Rattle.ue_sm.specs.declared.cells.Cell.TheVariants.{Inactive, ActivePending, Active, ModificationPending, InactivePending}
use Rattle.ue_sm.specs.declared.work.Work.{Work}

-- what a MODIFICATION COMMAND is answered with: COMPLETE, COMMAND REJECT, or
-- 5GSM STATUS where its transaction is unknown
abbrev pub message_of : Answer → Sm
message_of Complete = sm.PduSessionModificationComplete
message_of (Refused n) = sm.PduSessionModificationCommandReject (record { cause = n })
message_of Mismatch = sm.FiveGsmStatus (record { cause = cause.PTI_MISMATCH })

-- Two commands are equal where their whole messages are, the identity of the transaction included.
abbrev pub is_same_if_there : {A : Type 0} → (A → A → Bool) → Option A → Option A → Bool
is_same_if_there same None None = true
is_same_if_there same None (Some y) = false
is_same_if_there same (Some x) None = false
is_same_if_there same (Some x) (Some y) = same x y

abbrev pub is_same_ambr : Ambr → Ambr → Bool
is_same_ambr a b = a.down_unit == b.down_unit && a.down == b.down && a.up_unit == b.up_unit && a.up == b.up

abbrev pub is_same_cause : ℕ → ℕ → Bool
is_same_cause a b = a == b

abbrev pub is_same : PduSessionModificationCommand → PduSessionModificationCommand → Bool
is_same a b =
    is_same_if_there is_same_cause a.cause b.cause && is_same_if_there is_same_ambr a.ambr b.ambr
    && is_same_if_there bytes_eq a.rules b.rules

-- the answer that a command gets again: that of the last command that the session answered, where it is the same
abbrev pub again : ℕ → PduSessionModificationCommand → Option Answered → Option Answer
again pti command last =
    per last None (λ (a : Answered). when a.pti == pti && is_same a.command command then Some a.answer else None)

-- in which states a command gets it
abbrev pub last_answered : Cell → Option Answered
last_answered Inactive = None
last_answered (ActivePending t) = None
last_answered (Active held) = held.answered
last_answered (ModificationPending held t) = held.answered
last_answered (InactivePending held t) = None

abbrev pub command_in : Sm → Option PduSessionModificationCommand
command_in (sm.PduSessionModificationCommand m) = Some m
command_in (sm.PduSessionEstablishmentRequest m) = None
command_in (sm.PduSessionEstablishmentAccept m) = None
command_in (sm.PduSessionEstablishmentReject m) = None
command_in (sm.PduSessionModificationRequest m) = None
command_in (sm.PduSessionModificationReject m) = None
command_in sm.PduSessionModificationComplete = None
command_in (sm.PduSessionModificationCommandReject m) = None
command_in (sm.PduSessionReleaseRequest m) = None
command_in (sm.PduSessionReleaseReject m) = None
command_in (sm.PduSessionReleaseCommand m) = None
command_in (sm.PduSessionReleaseComplete m) = None
command_in (sm.FiveGsmStatus m) = None

unfoldable pub same_answer : ℕ → Sm → Cell → Option Answer
same_answer pti message c =
    per (command_in message) None (λ (command : PduSessionModificationCommand). again pti command (last_answered c))

-- the rules that a command makes of a session's; without operations they stay
abbrev pub rules_by : PduSessionModificationCommand → SessionValues → Result (List QosRule) ℕ
rules_by command session = per command.rules (Ok session.rules) (λ (octets : List ℕ). ruled octets session.rules)

-- A command and what it is answered with.
abbrev pub last_of : ℕ → PduSessionModificationCommand → Answer → Answered
last_of pti command answer = record { pti = pti; command = command; answer = answer }

abbrev pub answer_with : ℕ → ℕ → Answer → Work → Work
answer_with psi pti answer w = say psi pti (message_of answer) w

-- A command that is taken: it is applied and confirmed, or refused, and then nothing of the session changes. A
-- transaction that was open ends.
abbrev pub applied_to : Result (List QosRule) ℕ → ℕ → ℕ → PduSessionModificationCommand → Work → Work
applied_to (Ok rules) psi pti command w =
    answer_with psi pti Complete (ended psi (completed (last_of pti command Complete) rules (cell psi w)) w)
applied_to (Err n) psi pti command w =
    answer_with psi pti (Refused n) (ended psi (refused (last_of pti command (Refused n)) (cell psi w)) w)

unfoldable pub modification_commanded : ℕ → ℕ → PduSessionModificationCommand → Work → Work
modification_commanded psi pti command w =
    per (session_of (cell psi w)) w
    (λ (session : SessionValues). applied_to (rules_by command session) psi pti command w)

-- A command whose transaction is unknown: 5GSM STATUS is its answer, and a transaction that is open stays so.
unfoldable pub mismatched : ℕ → ℕ → Sm → Work → Work
mismatched psi pti message w =
    per (command_in message) w (λ (command : PduSessionModificationCommand).
    answer_with psi pti Mismatch (put psi (answering (last_of pti command Mismatch) (cell psi w)) w))

-- PDU SESSION RELEASE COMMAND: it is confirmed without a cause, and the session is no more, whatever was under way
unfoldable pub release_commanded : ℕ → ℕ → Work → Work
release_commanded psi pti w =
    say psi pti (sm.PduSessionReleaseComplete (record { cause = None })) (ended psi Inactive w)
