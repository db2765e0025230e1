use Rattle.nas_pools.proofs.WholeLaws.{gives_taken}
use Rattle.nas_pools.proofs.laws.gives_taken.Goals as goal

pub returns : goal.returns
returns c = gives_taken
