use Rattle.nas_pools.proofs.WholeLaws.{giving_undoes}
use Rattle.nas_pools.proofs.laws.giving_undoes.Goals as goal

pub returns : goal.returns
returns c = giving_undoes
