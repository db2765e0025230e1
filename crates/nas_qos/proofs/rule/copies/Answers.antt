use Rattle.std.proofs.Common.{[]}
use Rattle.nas_qos.proofs.Copies.{one_copied}
use Rattle.nas_qos.proofs.rule.copies.Goals as goal

pub loop-rule-preserved : goal.loop-rule-preserved
loop-rule-preserved c =
    one_copied [] c.args.rules.now c.loop-rule.items.items _ c.loop-rule.rule-index c.rule-item.result c.in_ok-copy.copy c.loop-rule-test.true c.rule-item.is c.loop-rule.invariant c.in_ok-copy.ensures c.in-Ok.ensures.items
