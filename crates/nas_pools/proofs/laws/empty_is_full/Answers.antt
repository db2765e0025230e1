use Rattle.nas_pools.proofs.EmptyLaws.{empty_is_full}
use Rattle.nas_pools.proofs.laws.empty_is_full.Goals as goal

pub returns : goal.returns
returns c = empty_is_full
