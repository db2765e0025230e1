-- What working on a step comes to.
use Rattle.std.specs.Prelude.{◌≡◌, Bool, true, false, Result, Ok, Err}
use Rattle.nas_base.specs.Outcomes.{RefusesAs}
use Rattle.nas_base.specs.declared.memory.Memory.{Memory}
use Rattle.amf_core.specs.Work.{Work, Working}
use Rattle.amf_core.specs.declared.inputs.AmfRefusal.{AmfRefusal}
use Rattle.amf_core.specs.declared.inputs.AmfRefusal.TheVariants as refusals

-- which refusal is want of memory
abbrev pub wants_memory : AmfRefusal → Bool
wants_memory refusals.Memory = true
wants_memory refusals.UnknownSupi = false
wants_memory (refusals.WrongState word) = false
wants_memory (refusals.SqnSpent n) = false
wants_memory (refusals.Uncompleted tmsi) = false
wants_memory (refusals.Updated tmsi) = false
wants_memory (refusals.TmsiSpent last) = false

-- the step was worked on as its row says, or refused as it says; or memory was wanting
abbrev pub Works : Working → Working → Result Unit AmfRefusal → Result Work AmfRefusal → Type 0
Works old new (Ok done) row = (row ≡ Ok new.work) × (new.before ≡ old.before)
Works old new (Err refusal) row = RefusesAs wants_memory refusal row

-- where memory alone can be wanting
abbrev pub unrefused : Result Unit Memory → Result Unit AmfRefusal
unrefused (Ok done) = Ok done
unrefused (Err wanting) = Err refusals.Memory
