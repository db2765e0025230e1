use Rattle.std.proofs.Common.{◌≡◌, take}
use Rattle.nas_pools.proofs.kinds.copies.Given as goal

-- the first of them are copied
abbrev pub invariant-loop-kind : goal.invariant-loop-kind
invariant-loop-kind l = l.copies.items ≡ take l.kind-index l.kinds
