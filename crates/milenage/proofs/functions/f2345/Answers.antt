use Rattle.milenage.specs.Milenage.{f2, f3, f4, f5}
use Rattle.milenage.proofs.functions.f2345.Goals as goal

pub returns : goal.returns
unfolding f2 f3 f4 f5
returns c = cc
