use Rattle.std.proofs.Common.{sym, arith}
use Rattle.nas_qos.proofs.Keeping.{change_kept, kept_where_ok}
use Rattle.nas_qos.proofs.applying.apply_one.Goals as goal

pub check_limits-requires-clause-rules : goal.check_limits-requires-clause-rules
check_limits-requires-clause-rules c =
    let right = rw c.as_slice.ensures.value at c.if-is_wrong.ensures in
    let kept = change_kept c.args.op.now c.args.rules.now.items c.requires (rw (← c.op.view_is) c.op.invariant) (sym right) in
    rw (c.as_slice-2.ensures.value, c.in-Ok.ensures) (omega (arith, kept.rules_few, c.requires.rules_fit))

pub check_limits-requires-clause-filters : goal.check_limits-requires-clause-filters
check_limits-requires-clause-filters c =
    let right = rw c.as_slice.ensures.value at c.if-is_wrong.ensures in
    let kept = change_kept c.args.op.now c.args.rules.now.items c.requires (rw (← c.op.view_is) c.op.invariant) (sym right) in
    rw (c.as_slice-2.ensures.value, c.in-Ok.ensures) (omega (arith, kept.filters_few, c.requires.filters_fit))

pub returns-clause-kept : goal.returns-clause-kept
returns-clause-kept c =
    let right = rw c.as_slice.ensures.value at c.if-is_wrong.ensures in
    let kept = change_kept c.args.op.now c.args.rules.now.items c.requires (rw (← c.op.view_is) c.op.invariant) (sym right) in
    let limits = rw c.as_slice-2.ensures.value at c.check_limits.ensures in
    kept_where_ok c.check_limits.result c.args.rules.now.items c.change.new.rules.items limits (rw c.in-Ok.ensures kept)
