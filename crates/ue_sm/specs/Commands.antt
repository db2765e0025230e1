-- The commands that a handset's sessions are given (TS 24.501 clauses 6.4.1.2, 6.4.2.2
-- and 6.4.3.2), and what each is refused for.
use Rattle.std.specs.Prelude.{ℕ, ◌==◌, List, Result, Ok, Err}
use Rattle.nas_base.specs.Branches.{when◌then◌else◌}
use Rattle.nas_qos.specs.Applying.{all_applied}
use Rattle.nas_qos.specs.Operations.{Operation}
use Rattle.nas_qos.specs.Rules.{QosRule}
use Rattle.nas_qos.specs.declared.refusals.QosFault.{QosFault}
use Rattle.ue_sm.specs.Cells.{word_of}
use Rattle.ue_sm.specs.Establishment.{established_by}
use Rattle.ue_sm.specs.Modification.{modified_by}
use Rattle.ue_sm.specs.Release.{released_by}
use Rattle.ue_sm.specs.Work.{cell}
use Rattle.ue_sm.specs.declared.cells.Cell.{Cell}
use Rattle.ue_sm.specs.declared.cells.Cell.TheVariants.{Inactive, ActivePending, Active, ModificationPending, InactivePending}
use Rattle.ue_sm.specs.declared.inputs.SmCommand.{SmCommand}
use Rattle.ue_sm.specs.declared.inputs.SmCommand.TheVariants.{Establish, Modify, Release}
use Rattle.ue_sm.specs.declared.inputs.SmStepRefusal.{SmStepRefusal}
use Rattle.ue_sm.specs.declared.inputs.SmStepRefusal.TheVariants.{NoSuchSession, SessionThere, WrongState, Qos, NoPti}
use Rattle.ue_sm.specs.declared.work.Work.{Work}

-- A request needs an identity: behind 254, the last one, none is left before another context is taken into use.
abbrev pub with_identity : Work → Work → Result Work SmStepRefusal
with_identity w done = when w.state.next == 255 then Err (NoPti 254) else Ok done

-- a session that isn't inactive can't be established
abbrev pub establish : Cell → ℕ → ℕ → List ℕ → Work → Result Work SmStepRefusal
establish Inactive psi kind dnn w = with_identity w (established_by psi kind dnn w)
establish (ActivePending t) psi kind dnn w = Err (SessionThere psi)
establish (Active held) psi kind dnn w = Err (SessionThere psi)
establish (ModificationPending held t) psi kind dnn w = Err (SessionThere psi)
establish (InactivePending held t) psi kind dnn w = Err (SessionThere psi)

-- only a session that is there and has nothing under way can be modified or released; and
-- only by operations that apply to its rules
abbrev pub modify_with : Result (List QosRule) QosFault → ℕ → List Operation → Work → Result Work SmStepRefusal
modify_with (Ok rules) psi ops w = with_identity w (modified_by psi ops w)
modify_with (Err fault) psi ops w = Err (Qos fault)

abbrev pub modify : Cell → ℕ → List Operation → Work → Result Work SmStepRefusal
modify Inactive psi ops w = Err (NoSuchSession psi)
modify (ActivePending t) psi ops w = Err (WrongState (word_of (ActivePending t)))
modify (Active held) psi ops w = modify_with (all_applied ops held.session.rules) psi ops w
modify (ModificationPending held t) psi ops w = Err (WrongState (word_of (ModificationPending held t)))
modify (InactivePending held t) psi ops w = Err (WrongState (word_of (InactivePending held t)))

abbrev pub release : Cell → ℕ → Work → Result Work SmStepRefusal
release Inactive psi w = Err (NoSuchSession psi)
release (ActivePending t) psi w = Err (WrongState (word_of (ActivePending t)))
release (Active held) psi w = with_identity w (released_by psi w)
release (ModificationPending held t) psi w = Err (WrongState (word_of (ModificationPending held t)))
release (InactivePending held t) psi w = Err (WrongState (word_of (InactivePending held t)))

unfoldable pub commanded : SmCommand → Work → Result Work SmStepRefusal
commanded (Establish psi kind dnn) w = establish (cell psi w) psi kind dnn w
commanded (Modify psi ops) w = modify (cell psi w) psi ops w
commanded (Release psi) w = release (cell psi w) psi w
