use Rattle.nas_qos.proofs.OperationsBack.{ops_back}
use Rattle.nas_qos.proofs.laws.ops_are_read_back.Goals as goal

pub returns : goal.returns
returns c = rw (← c.ops.view_is) (ops_back c.ops.inside.items.items c.ops.invariant)
