use Rattle.std.proofs.Common.{◌≡◌, drop}
use Rattle.nas_pools.specs.Kinds.{kinds_of}
use Rattle.nas_pools.proofs.kinds.DnnKinds.of.Given as goal

-- all tell what those that are left tell
abbrev pub invariant-loop-kind : goal.invariant-loop-kind
invariant-loop-kind l = kinds_of l.dnn l.has_v6 (drop l.kind-index l.kind-items) ≡ kinds_of l.dnn l.has_v6 l.kind-items
