-- What working on a step comes to.
use Rattle.std.specs.Prelude.{◌≡◌, Bool, true, false, Result, Ok, Err}
use Rattle.nas_base.specs.Outcomes.{RefusesAs}
use Rattle.ue_mm.specs.declared.inputs.StepRefusal.{StepRefusal}
use Rattle.ue_mm.specs.declared.inputs.StepRefusal.TheVariants.{WrongState, Spent, Memory}
use Rattle.ue_mm.specs.declared.work.Work.{Work}

-- which refusal is want of memory
abbrev pub wants_memory : StepRefusal → Bool
wants_memory Memory = true
wants_memory (WrongState word) = false
wants_memory (Spent next) = false

-- the step was worked on as its row says, or refused as it says; or memory was wanting
abbrev pub Works : Work → Result Unit StepRefusal → Result Work StepRefusal → Type 0
Works new (Ok done) row = row ≡ Ok new
Works new (Err refusal) row = RefusesAs wants_memory refusal row
