use Rattle.std.proofs.Common.{length}
use Rattle.nas_elements.proofs.status.+pack.Given as goal

abbrev pub decreases-pack : goal.decreases-pack
decreases-pack l = length l.places.now
