use Rattle.std.proofs.Common.{length}
use Rattle.nas_qos.proofs.filter.+same.Given as goal

abbrev pub decreases-same : goal.decreases-same
decreases-same l = length l.filters.now
