use Rattle.milenage.proofs.HomeRises.{auts_is_right}
use Rattle.milenage.proofs.laws.auts_is_right.Goals as goal

pub returns : goal.returns
returns c = auts_is_right
