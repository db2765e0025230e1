use Rattle.std.proofs.Common.{◌≡◌, take}
use Rattle.nas_qos.proofs.operation.RuleOps.copy.Given as goal

-- the operations so far
abbrev pub invariant-loop-op : goal.invariant-loop-op
invariant-loop-op l = l.items.items ≡ take l.op-index l.op-items
