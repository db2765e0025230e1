use Rattle.std.proofs.Common.{length}
use Rattle.nas_qos.proofs.applying.+lower.Given as goal

abbrev pub decreases-lower : goal.decreases-lower
decreases-lower l = length l.rules.now
