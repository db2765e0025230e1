-- The modification of PDU sessions (TS 24.501 clauses 6.3.2 and 6.4.2).
use Rattle.std.specs.Prelude.{ℕ, ◌||◌, Bool, false, List, Option, Some, None, Result, Ok, Err}
use Rattle.nas_base.specs.Branches.{per, when◌then◌else◌}
use Rattle.nas_base.specs.declared.sm_cause.TheConstants as cause
use Rattle.nas_elements.specs.declared.ambr.Ambr.{Ambr}
use Rattle.nas_qos.specs.Applying.{all_applied}
use Rattle.nas_qos.specs.Operations.{Operation, ops_in, ops_octets}
use Rattle.nas_qos.specs.Rules.{QosRule}
use Rattle.nas_qos.specs.declared.refusals.QosFault.{QosFault}
use Rattle.nas_timers.specs.declared.timer_id.TimerId.TheVariants.{T3591}
use Rattle.sm_messages.specs.Session.{SessionValues}
use Rattle.sm_messages.specs.declared.message.Sm.{Sm}
use Rattle.sm_messages.specs.declared.message.Sm.TheVariants as sm
use Rattle.sm_messages.specs.declared.message.SmFrame.{SmFrame}
use Rattle.smf_core.specs.Release.{is_no_transaction}
use Rattle.smf_core.specs.Sameness.{is_unchanged}
use Rattle.smf_core.specs.Spelling.{is_same_frame}
use Rattle.smf_core.specs.Work.{Working, frame, give_out, held, say}
use Rattle.smf_core.specs.declared.held.Held.{Held}
use Rattle.smf_core.specs.declared.held.LastCommand.{LastCommand}
use Rattle.smf_core.specs.declared.held.Modification.{Modification}
use Rattle.smf_core.specs.declared.held.Phase.{Phase}
use Rattle.smf_core.specs.declared.held.Phase.TheVariants.{Active, Modifying, Settling, Releasing}

-- PDU SESSION MODIFICATION COMMAND: the operations on the QoS rules, and the
-- session AMBR where it changes (clause 6.3.2.2)
abbrev pub modification_command : Option Ambr → List Operation → Sm
modification_command ambr ops =
    sm.PduSessionModificationCommand (record { cause = None; ambr = ambr; rules = Some (ops_octets ops) })

abbrev pub ambr_after : Option Ambr → Ambr → Ambr
ambr_after ambr old = per ambr old (λ (new : Ambr). new)

-- a modification: its command, and what the session becomes by it
abbrev pub modification : ℕ → ℕ → Option Ambr → List Operation → List QosRule → SessionValues → Modification
modification psi pti ambr ops rules session = record {
  command = record { message = frame psi pti (modification_command ambr ops); timer = T3591 psi; sendings = 1 };
  rules = rules;
  ambr = ambr_after ambr session.ambr;
}

-- It isn't issued where it leaves the session as it is, or where its command is the session's last one once more.
abbrev pub is_last : SmFrame → Option LastCommand → Bool
is_last message last = per last false (λ (l : LastCommand). is_same_frame message l.message)

abbrev pub changes_nothing : Modification → Option LastCommand → SessionValues → Bool
changes_nothing m last session = is_unchanged session m.rules m.ambr || is_last m.command.message last

-- the command is given out
unfoldable pub modifying : Modification → ℕ → SessionValues → Working → Working
modifying m psi session w =
    give_out m.command.message m.command.timer psi (record { session = session; phase = Modifying m }) w

-- PDU SESSION MODIFICATION REJECT (clause 6.4.2.4)
abbrev pub modification_rejected : ℕ → ℕ → ℕ → Working → Working
modification_rejected psi pti n w = say psi pti (sm.PduSessionModificationReject (record { cause = n })) w

-- PDU SESSION MODIFICATION REQUEST in Active: octets that are no list of operations are a
-- syntactical error; no operations at all, operations that don't go with the session's rules, and
-- those that aren't issued, are a semantic one
abbrev pub modification_asked : Modification → Option LastCommand → ℕ → ℕ → SessionValues → Working → Working
modification_asked m last psi pti session w =
    when changes_nothing m last session
    then modification_rejected psi pti cause.SEMANTIC_ERROR_IN_THE_QOS_OPERATION w
    else modifying m psi session w

abbrev pub asked_with : Result (List QosRule) QosFault → List Operation → Option LastCommand → ℕ → ℕ → SessionValues
    → Working → Working
asked_with (Ok rules) ops last psi pti session w =
    modification_asked (modification psi pti None ops rules session) last psi pti session w
asked_with (Err fault) ops last psi pti session w =
    modification_rejected psi pti cause.SEMANTIC_ERROR_IN_THE_QOS_OPERATION w

abbrev pub asked_by : Result (List Operation) ℕ → Option LastCommand → ℕ → ℕ → SessionValues → Working → Working
asked_by (Ok ops) last psi pti session w = asked_with (all_applied ops session.rules) ops last psi pti session w
asked_by (Err at) last psi pti session w = modification_rejected psi pti cause.SYNTACTICAL_ERROR_IN_THE_QOS_OPERATION w

unfoldable pub requested_in_active : Option (List ℕ) → Option LastCommand → ℕ → ℕ → SessionValues → Working → Working
requested_in_active rules last psi pti session w =
    per rules (modification_rejected psi pti cause.SEMANTIC_ERROR_IN_THE_QOS_OPERATION w)
    (λ (octets : List ℕ). asked_by (ops_in octets) last psi pti session w)

-- In Modifying and Releasing it is ignored: the network's command goes on (clause 6.4.2.6). A
-- session in Settling takes no modification.
abbrev pub modification_requested_in : Phase → Option (List ℕ) → ℕ → ℕ → SessionValues → Working → Working
modification_requested_in (Active last) rules psi pti session w = requested_in_active rules last psi pti session w
modification_requested_in (Modifying m) rules psi pti session w = w
modification_requested_in (Settling last) rules psi pti session w =
    modification_rejected psi pti cause.INSUFFICIENT_RESOURCES w
modification_requested_in (Releasing command) rules psi pti session w = w

unfoldable pub modification_requested : Option (List ℕ) → ℕ → ℕ → Working → Working
modification_requested rules psi pti w =
    when is_no_transaction pti then w
    else per (held psi w) (modification_rejected psi pti cause.INVALID_PDU_SESSION_IDENTITY w)
    (λ (h : Held). modification_requested_in h.phase rules psi pti h.session w)
