use Rattle.milenage.proofs.HomeRises.{challenges_rise}
use Rattle.milenage.proofs.laws.challenges_rise.Goals as goal

pub returns : goal.returns
returns c = challenges_rise
