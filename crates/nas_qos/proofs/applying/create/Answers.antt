use Rattle.nas_qos.proofs.PlaceLaws.{created_at}
use Rattle.nas_qos.proofs.applying.create.Goals as goal

pub returns : goal.returns
returns c =
    rw c.in-Ok.ensures.items
    (created_at c.args.op.now c.args.rules.now.items c.lower-at.result c.in_ok-rule.rule c.in_ok-rule.ensures
    (rw (← c.op.view_is) (rw c.as_slice.ensures.value at c.lower-at.ensures.value)))
