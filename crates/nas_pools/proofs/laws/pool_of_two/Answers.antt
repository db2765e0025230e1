use Rattle.nas_pools.proofs.WholeLaws.{pool_of_two}
use Rattle.nas_pools.proofs.laws.pool_of_two.Goals as goal

pub returns : goal.returns
returns c = pool_of_two
