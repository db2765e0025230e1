use Rattle.nas_pools.proofs.WholeLaws.{taken_are_distinct}
use Rattle.nas_pools.proofs.laws.taken_are_distinct.Goals as goal

pub returns : goal.returns
returns c = taken_are_distinct
