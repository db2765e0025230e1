use Rattle.std.proofs.Common.{◌≡◌, drop}
use Rattle.nas_pools.specs.Kinds.{are_distinct}
use Rattle.nas_pools.proofs.kinds.are_distinct.Given as goal

-- all are distinct exactly where those that are left are
abbrev pub invariant-loop-place : goal.invariant-loop-place
invariant-loop-place l = are_distinct (drop l.place l.kinds) ≡ are_distinct l.kinds
