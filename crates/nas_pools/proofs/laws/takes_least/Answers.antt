use Rattle.nas_pools.proofs.OneLaws.{takes_least}
use Rattle.nas_pools.proofs.laws.takes_least.Goals as goal

pub returns : goal.returns
returns c = takes_least
