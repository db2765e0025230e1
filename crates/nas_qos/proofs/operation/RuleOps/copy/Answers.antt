use Rattle.std.proofs.Common.{[]}
use Rattle.nas_qos.proofs.Copies.{one_copied}
use Rattle.nas_qos.proofs.operation.RuleOps.copy.Goals as goal

pub loop-op-preserved : goal.loop-op-preserved
loop-op-preserved c =
    one_copied [] c.as_slice-op-items.result.now c.loop-op.items.items _ c.loop-op.op-index c.op-item.result c.in_ok-copy.copy c.loop-op-test.true c.op-item.is c.loop-op.invariant c.in_ok-copy.ensures c.in-Ok.ensures.items
