use Rattle.std.proofs.Common.{length}
use Rattle.nas_qos.proofs.applying.+place.Given as goal

abbrev pub decreases-place : goal.decreases-place
decreases-place l = length l.rules.now
