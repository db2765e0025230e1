-- A PDU session of a handset in one of its states (TS 24.501 clause 6.1.3.2).
use Rattle.std.specs.Prelude.{ℕ, Bool, true, false, ◌==◌, List, Option, Some, None, option_map}
use Rattle.nas_base.specs.Branches.{per, when◌then◌else◌}
use Rattle.nas_base.specs.declared.sm_cause.TheConstants as cause
use Rattle.nas_base.specs.declared.state_words.SmWord.{SmWord}
use Rattle.nas_base.specs.declared.state_words.SmWord.TheVariants as words
use Rattle.nas_timers.specs.declared.timer_id.TimerId.{TimerId}
use Rattle.nas_timers.specs.declared.timer_id.TimerId.TheVariants.{T3580, T3581, T3582}
use Rattle.collision_rules.specs.declared.action.PtiCase.{PtiCase}
use Rattle.collision_rules.specs.declared.action.PtiCase.TheVariants as pti
use Rattle.nas_elements.specs.declared.ambr.Ambr.{Ambr}
use Rattle.nas_qos.specs.Rules.{QosRule}
use Rattle.sm_messages.specs.Session.{SessionValues}
use Rattle.sm_messages.specs.declared.modification.PduSessionModificationCommand.{PduSessionModificationCommand}
use Rattle.ue_sm.specs.Transactions.{OpenTransaction, sent_again}
use Rattle.ue_sm.specs.declared.cells.Answered.{Answered}
use Rattle.ue_sm.specs.declared.cells.Cell.{Cell}
use Rattle.ue_sm.specs.declared.cells.Cell.TheVariants.{Inactive, ActivePending, Active, ModificationPending, InactivePending}
use Rattle.ue_sm.specs.declared.cells.Held.{Held}

-- its word
abbrev pub word_of : Cell → SmWord
word_of Inactive = words.Inactive
word_of (ActivePending t) = words.ActivePending
word_of (Active held) = words.Active
word_of (ModificationPending held t) = words.ModificationPending
word_of (InactivePending held t) = words.InactivePending

-- what is held of a session that is there, with the last command of the network that it answered
abbrev pub held_of : Cell → Option Held
held_of Inactive = None
held_of (ActivePending t) = None
held_of (Active held) = Some held
held_of (ModificationPending held t) = Some held
held_of (InactivePending held t) = Some held

abbrev pub session_of : Cell → Option SessionValues
session_of cell = option_map (λ (held : Held). held.session) (held_of cell)

abbrev pub is_held : Cell → Bool
is_held Inactive = false
is_held (ActivePending t) = false
is_held (Active held) = true
is_held (ModificationPending held t) = true
is_held (InactivePending held t) = true

-- the transaction that is open, and its timer, which runs exactly while it is
abbrev pub transaction_of : Cell → Option OpenTransaction
transaction_of Inactive = None
transaction_of (ActivePending t) = Some t
transaction_of (Active held) = None
transaction_of (ModificationPending held t) = Some t
transaction_of (InactivePending held t) = Some t

abbrev pub timer_of : ℕ → Cell → Option TimerId
timer_of psi Inactive = None
timer_of psi (ActivePending t) = Some (T3580 psi)
timer_of psi (Active held) = None
timer_of psi (ModificationPending held t) = Some (T3581 psi)
timer_of psi (InactivePending held t) = Some (T3582 psi)

-- whose transaction a message's identity names: none (0), the open one of this session, or another
abbrev pub pti_case : ℕ → Cell → PtiCase
pti_case n cell =
    when n == 0 then pti.None
    else per (transaction_of cell) pti.Foreign
    (λ (t : OpenTransaction). when t.request.pti == n then pti.Mine else pti.Foreign)

-- Where a transaction ends without its answer, a session that was to be established, or to be
-- released, is no more, and one that was to be modified stays as it was: behind the fifth expiry of
-- its timer, or where its request wasn't forwarded.
abbrev pub unanswered : Cell → Cell
unanswered Inactive = Inactive
unanswered (ActivePending t) = Inactive
unanswered (Active held) = Active held
unanswered (ModificationPending held t) = Active held
unanswered (InactivePending held t) = Inactive

-- A transaction that is abandoned leaves the session as it was before, also where it was to be released.
abbrev pub abandoned : Cell → Cell
abandoned Inactive = Inactive
abandoned (ActivePending t) = Inactive
abandoned (Active held) = Active held
abandoned (ModificationPending held t) = Active held
abandoned (InactivePending held t) = Active held

-- the request that is open was sent once more
abbrev pub resent : Cell → Cell
resent Inactive = Inactive
resent (ActivePending t) = ActivePending (sent_again t)
resent (Active held) = Active held
resent (ModificationPending held t) = ModificationPending held (sent_again t)
resent (InactivePending held t) = InactivePending held (sent_again t)

-- a request to modify, or to release, a session that is active awaits its answer
abbrev pub awaiting_modification : OpenTransaction → Cell → Cell
awaiting_modification new Inactive = Inactive
awaiting_modification new (ActivePending t) = ActivePending t
awaiting_modification new (Active held) = ModificationPending held new
awaiting_modification new (ModificationPending held t) = ModificationPending held t
awaiting_modification new (InactivePending held t) = InactivePending held t

abbrev pub awaiting_release : OpenTransaction → Cell → Cell
awaiting_release new Inactive = Inactive
awaiting_release new (ActivePending t) = ActivePending t
awaiting_release new (Active held) = InactivePending held new
awaiting_release new (ModificationPending held t) = ModificationPending held t
awaiting_release new (InactivePending held t) = InactivePending held t

-- Such a request was rejected, which ends its transaction: the session is as it was, or
-- no more where the network knows of none.
abbrev pub active_unless_unknown : ℕ → Held → Cell
active_unless_unknown n held = when n == cause.INVALID_PDU_SESSION_IDENTITY then Inactive else Active held

abbrev pub rejected : ℕ → Cell → Cell
rejected n Inactive = Inactive
rejected n (ActivePending t) = Inactive
rejected n (Active held) = Active held
rejected n (ModificationPending held t) = active_unless_unknown n held
rejected n (InactivePending held t) = active_unless_unknown n held

-- a command of the network is the last that the session answered
abbrev pub with_answer : Answered → Held → Held
with_answer answered held = record held { answered = Some answered }

abbrev pub answering : Answered → Cell → Cell
answering answered Inactive = Inactive
answering answered (ActivePending t) = ActivePending t
answering answered (Active held) = Active (with_answer answered held)
answering answered (ModificationPending held t) = ModificationPending (with_answer answered held) t
answering answered (InactivePending held t) = InactivePending held t

-- A command that was applied, or refused, ends the transaction that is open. (The table takes none while a session is
-- to be established or released.) What it modifies is the session's rules and, where it tells one, its AMBR.
abbrev pub ambr_by : PduSessionModificationCommand → SessionValues → Ambr
ambr_by command session = per command.ambr session.ambr (λ (ambr : Ambr). ambr)

abbrev pub modified : Answered → List QosRule → Held → Held
modified answered rules held = record {
  session = record held.session { rules = rules; ambr = ambr_by answered.command held.session };
  answered = Some answered;
}

abbrev pub completed : Answered → List QosRule → Cell → Cell
completed answered rules Inactive = Inactive
completed answered rules (ActivePending t) = Inactive
completed answered rules (Active held) = Active (modified answered rules held)
completed answered rules (ModificationPending held t) = Active (modified answered rules held)
completed answered rules (InactivePending held t) = Active (modified answered rules held)

abbrev pub refused : Answered → Cell → Cell
refused answered Inactive = Inactive
refused answered (ActivePending t) = Inactive
refused answered (Active held) = Active (with_answer answered held)
refused answered (ModificationPending held t) = Active (with_answer answered held)
refused answered (InactivePending held t) = Active (with_answer answered held)
