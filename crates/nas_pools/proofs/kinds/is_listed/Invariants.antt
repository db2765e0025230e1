use Rattle.std.proofs.Common.{◌≡◌, drop}
use Rattle.nas_pools.specs.Kinds.{is_listed}
use Rattle.nas_pools.proofs.kinds.is_listed.Given as goal

-- the data network is among all exactly where it is among those that are left
abbrev pub invariant-loop-kind : goal.invariant-loop-kind
invariant-loop-kind l = is_listed l.dnn (drop l.kind-index l.kinds) ≡ is_listed l.dnn l.kinds
