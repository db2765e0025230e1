use Rattle.std.proofs.Common.{arith, ◌∙◌}
use Rattle.std.proofs.Math.ListN.{length-set}
use Rattle.nas_elements.proofs.StatusLemmas.{both_step}
use Rattle.nas_elements.proofs.status.Status.both.Goals as goal

pub loop-index-preserved : goal.loop-index-preserved
loop-index-preserved c = (
  both_step c.loop-index.place-items c.self.inside.held c.other.inside.held c.loop-index.index (omega arith) (omega arith) (omega arith) c.loop-index.invariant.0,
  length-set c.loop-index.place-items c.loop-index.index _ ∙ c.loop-index.invariant.1,
)
