use Rattle.std.proofs.Common.{◌*◌}
use Rattle.nas_pools.proofs.BitLemmas.{AllMarked}
use Rattle.nas_pools.proofs.bits.first_clear.Given as goal

abbrev pub invariant-loop-place : goal.invariant-loop-place
invariant-loop-place l = AllMarked l.words (64 * l.place)
