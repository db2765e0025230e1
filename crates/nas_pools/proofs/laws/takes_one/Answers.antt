use Rattle.nas_pools.proofs.OneLaws.{takes_one}
use Rattle.nas_pools.proofs.laws.takes_one.Goals as goal

pub returns : goal.returns
returns c = takes_one
