use Rattle.std.proofs.Common.{◌≡◌, true, ap}
use Rattle.nas_qos.proofs.OperationsBack.{same_ops}
use Rattle.nas_qos.specs.Operations.{is_ops, ops_octets}
use Rattle.nas_qos.proofs.operation.RuleOps.equals.Goals as goal

pub returns : goal.returns
returns c =
    let told = rw (c.as_slice.ensures.value, c.as_slice-2.ensures.value, c.ops_octets.ensures, c.ops_octets-2.ensures) at c.same_octets.ensures in
    let whole : is_ops c.args.self.now ≡ true = rw (← c.self.view_is) c.self.invariant in
    let right : is_ops c.args.other.now ≡ true = rw (← c.other.view_is) c.other.invariant in
    (λ same. same_ops c.args.self.now c.args.other.now whole right (told.0 same), λ equal. told.1 (ap ops_octets equal))
