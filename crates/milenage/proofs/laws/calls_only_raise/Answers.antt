use Rattle.milenage.proofs.HomeRises.{calls_only_raise}
use Rattle.milenage.proofs.laws.calls_only_raise.Goals as goal

pub returns : goal.returns
returns c = calls_only_raise
