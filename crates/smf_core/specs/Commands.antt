-- The commands to modify and to release a session, which the network begins itself
-- (TS 24.501 clauses 6.3.2.2 and 6.3.3.2).
use Rattle.std.specs.Prelude.{ℕ, List, Option, Some, None, Result, Ok, Err}
use Rattle.nas_base.specs.Branches.{per, when◌then◌else◌}
use Rattle.nas_base.specs.declared.state_words.SmfWord.TheVariants as words
use Rattle.nas_elements.specs.declared.ambr.Ambr.{Ambr}
use Rattle.nas_qos.specs.Applying.{all_applied}
use Rattle.nas_qos.specs.Operations.{Operation}
use Rattle.nas_qos.specs.Rules.{QosRule}
use Rattle.nas_qos.specs.declared.refusals.QosFault.{QosFault}
use Rattle.sm_messages.specs.Session.{SessionValues}
use Rattle.smf_core.specs.Modification.{changes_nothing, modification, modifying}
use Rattle.smf_core.specs.Release.{releasing}
use Rattle.smf_core.specs.Work.{Working, held}
use Rattle.smf_core.specs.declared.held.Held.{Held}
use Rattle.smf_core.specs.declared.held.LastCommand.{LastCommand}
use Rattle.smf_core.specs.declared.held.Modification.{Modification}
use Rattle.smf_core.specs.declared.held.Phase.{Phase}
use Rattle.smf_core.specs.declared.held.Phase.TheVariants.{Active, Modifying, Settling, Releasing}
use Rattle.smf_core.specs.declared.inputs.SmfRefusal.{SmfRefusal}
use Rattle.smf_core.specs.declared.inputs.SmfRefusal.TheVariants as refusals

-- In Active a session is modified by operations that go with its rules, where they change something.
abbrev pub modified : Modification → Option LastCommand → ℕ → SessionValues → Working → Result Working SmfRefusal
modified m last psi session w =
    when changes_nothing m last session then Err refusals.NoChange else Ok (modifying m psi session w)

abbrev pub modified_with : Result (List QosRule) QosFault → List Operation → Option Ambr → Option LastCommand → ℕ
    → SessionValues → Working → Result Working SmfRefusal
modified_with (Ok rules) ops ambr last psi session w =
    modified (modification psi 0 ambr ops rules session) last psi session w
modified_with (Err fault) ops ambr last psi session w = Err (refusals.Qos fault)

-- While a command is open it is busy. In Settling it takes no modification.
abbrev pub modify_in : Phase → List Operation → Option Ambr → ℕ → SessionValues → Working → Result Working SmfRefusal
modify_in (Active last) ops ambr psi session w =
    modified_with (all_applied ops session.rules) ops ambr last psi session w
modify_in (Modifying m) ops ambr psi session w = Err (refusals.WrongState words.Modifying)
modify_in (Settling last) ops ambr psi session w = Err (refusals.Settling last.sendings)
modify_in (Releasing command) ops ambr psi session w = Err (refusals.WrongState words.Releasing)

unfoldable pub modify : ℕ → List Operation → Option Ambr → Working → Result Working SmfRefusal
modify psi ops ambr w =
    per (held psi w) (Err (refusals.NoSuchSession psi)) (λ (h : Held). modify_in h.phase ops ambr psi h.session w)

-- A session is released in every state in which it isn't being released.
abbrev pub release_in : Phase → ℕ → SessionValues → Working → Result Working SmfRefusal
release_in (Active last) psi session w = Ok (releasing psi 0 None session w)
release_in (Modifying m) psi session w = Ok (releasing psi 0 (Some m.command.timer) session w)
release_in (Settling last) psi session w = Ok (releasing psi 0 None session w)
release_in (Releasing command) psi session w = Err (refusals.WrongState words.Releasing)

unfoldable pub release : ℕ → Working → Result Working SmfRefusal
release psi w = per (held psi w) (Err (refusals.NoSuchSession psi)) (λ (h : Held). release_in h.phase psi h.session w)
