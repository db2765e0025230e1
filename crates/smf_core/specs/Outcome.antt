-- What working on a step comes to.
use Rattle.std.specs.Prelude.{◌≡◌, Bool, true, false, Result, Ok, Err}
use Rattle.nas_base.specs.Outcomes.{RefusesAs}
use Rattle.nas_base.specs.declared.memory.Memory.{Memory}
use Rattle.smf_core.specs.Drafts.{Drafted}
use Rattle.smf_core.specs.Work.{Working}
use Rattle.smf_core.specs.declared.inputs.SmfRefusal.{SmfRefusal}
use Rattle.smf_core.specs.declared.inputs.SmfRefusal.TheVariants as refusals

-- which refusal is want of memory
abbrev pub wants_memory : SmfRefusal → Bool
wants_memory refusals.Memory = true
wants_memory (refusals.NoSuchSession psi) = false
wants_memory (refusals.WrongState word) = false
wants_memory (refusals.Settling sent) = false
wants_memory (refusals.Qos fault) = false
wants_memory refusals.NoChange = false

-- the step was worked on as its row says, or refused as it says; or memory was wanting
abbrev pub Works : Drafted → Drafted → Result Unit SmfRefusal → Result Working SmfRefusal → Type 0
Works old new (Ok done) row = (row ≡ Ok new.work) × (new.before ≡ old.before)
Works old new (Err refusal) row = RefusesAs wants_memory refusal row

-- where memory alone can be wanting
abbrev pub unrefused : Result Unit Memory → Result Unit SmfRefusal
unrefused (Ok done) = Ok done
unrefused (Err wanting) = Err refusals.Memory
