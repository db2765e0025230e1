use Rattle.std.proofs.Common.{◌/◌, ◌%◌, arith}
use Rattle.std.proofs.lemmas.Result.{err_from_is_err_and}
use Rattle.nas_qos.proofs.FilterReading.{made_filter, none_whole, whole_read}
use Rattle.nas_qos.proofs.TurnsReading.{some_there}
use Rattle.nas_qos.proofs.filter.read_whole.Goals as goal

pub invariant_of-result : goal.invariant_of-result
invariant_of-result c =
    let there = some_there c.args.contents.now c.is_empty.result c.is_empty.ensures c.if-is_empty.false in
    made_filter (c.args.first % 16) (c.args.first / 16 % 4) c.args.contents.now c.in_ok-parts.parts (omega arith) (omega arith) (omega arith) there c.in_ok-parts.ensures.1

pub returns : goal.returns
returns c =
    let there = some_there c.args.contents.now c.is_empty.result c.is_empty.ensures c.if-is_empty.false in
    whole_read c.args.first c.args.contents.now c.in_ok-parts.parts (omega arith) there c.in_ok-parts.ensures.0 c.in_ok-parts.ensures.1

pub returns-in_err-parts : goal.returns-in_err-parts
returns-in_err-parts c =
    let p = err_from_is_err_and c.from_residual.result c.from_residual.ensures.1 in
    rw (p.1, p.2) (none_whole c.args.first c.args.contents.now c.in_err-parts.field-0.0 c.in_err-parts.ensures)
