use Rattle.std.proofs.Common.{length}
use Rattle.nas_qos.proofs.applying.+filters_of.Given as goal

abbrev pub decreases-filters_of : goal.decreases-filters_of
decreases-filters_of l = length l.rules.now
