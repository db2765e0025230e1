use Rattle.nas_pools.proofs.WholeLaws.{pools_stay}
use Rattle.nas_pools.proofs.laws.pools_stay.Goals as goal

pub returns : goal.returns
returns c = pools_stay
