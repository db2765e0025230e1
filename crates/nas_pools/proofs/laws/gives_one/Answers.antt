use Rattle.nas_pools.proofs.OneLaws.{gives_one}
use Rattle.nas_pools.proofs.laws.gives_one.Goals as goal

pub returns : goal.returns
returns c = gives_one
