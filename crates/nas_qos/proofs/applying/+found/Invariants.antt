use Rattle.std.proofs.Common.{length}
use Rattle.nas_qos.proofs.applying.+found.Given as goal

abbrev pub decreases-found : goal.decreases-found
decreases-found l = length l.rules.now
