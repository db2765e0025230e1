use Rattle.nas_pools.proofs.OneLaws.{takes_free}
use Rattle.nas_pools.proofs.laws.takes_free.Goals as goal

pub returns : goal.returns
returns c = takes_free
