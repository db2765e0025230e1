use Rattle.std.proofs.Common.{◌∙◌, ap}
use Rattle.std.proofs.lemmas.Result.{err_from_is_err_and}
use Rattle.nas_qos.specs.Applying.{all_applied}
use Rattle.nas_qos.proofs.ApplyLaws.{all_done, next_applied, refused}
use Rattle.nas_qos.proofs.applying.apply.Goals as goal

pub loop-op-init : goal.loop-op-init
loop-op-init c = record {
  told = ap (all_applied c.as_slice-op-items.result.now) (c.in-Ok.ensures ∙ c.as_slice.ensures.value);
  kept = rw c.in-Ok.ensures c.as_slice.ensures.rules;
}

pub loop-op-preserved : goal.loop-op-preserved
loop-op-preserved c = record {
  told = next_applied c.as_slice-op-items.result.now c.loop-op.op-index c.op-item.result c.loop-op.items.items c.apply_one.new.rules.items c.args.rules.now c.loop-op-test.true c.op-item.is c.in_ok-apply_one.ensures.done c.loop-op.invariant.told;
  kept = c.in_ok-apply_one.ensures.kept;
}

pub returns-in_err-apply_one : goal.returns-in_err-apply_one
returns-in_err-apply_one c =
    let p = err_from_is_err_and c.from_residual.result c.from_residual.ensures.1 in
    rw (p.1, p.2)
    (refused c.as_slice-op-items.result.now c.args.ops.now c.loop-op.op-index c.op-item.result c.loop-op.items.items c.apply_one.new.rules.items c.args.rules.now c.in_err-apply_one.field-0.0
    c.as_slice-op-items.ensures.value c.loop-op-test.true c.op-item.is c.in_err-apply_one.ensures.done c.loop-op.invariant.told)

pub invariant_of-result : goal.invariant_of-result
invariant_of-result c = c.loop-op.invariant.kept

pub returns : goal.returns
returns c =
    all_done c.as_slice-op-items.result.now c.args.ops.now c.loop-op.op-index c.loop-op.items.items c.args.rules.now c.as_slice-op-items.ensures.value c.loop-op-test.false c.loop-op.invariant.told
