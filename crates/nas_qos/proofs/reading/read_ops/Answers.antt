use Rattle.std.proofs.Common.{◌-◌, length, arith}
use Rattle.std.proofs.lemmas.Grind.{common_steps}
use Rattle.nas_qos.specs.Operations.{first_operation, operation_octets, operation_size}
use Rattle.nas_qos.proofs.OperationReading.{operation_parts, ops_read, within_more}
use Rattle.nas_qos.proofs.TurnsReading.{less_left, next_read, none_there, some_there, wrong_read}
use Rattle.nas_qos.proofs.reading.read_ops.Goals as goal

pub loop-rest-preserved : goal.loop-rest-preserved
loop-rest-preserved c =
    let read = c.in-Ok.ensures in
    let parts = operation_parts (length c.args.octets.now - length c.loop-rest.rest.now) c.loop-rest.rest.now c.in-Ok.op read.1 in
    let there = some_there c.loop-rest.rest.now c.is_empty.result c.is_empty.ensures c.loop-rest-test.true in
    let moved = next_read first_operation operation_size operation_octets c.args.octets.now c.loop-rest.items.items c.loop-rest.rest.now c.in-Ok.op c.loop-rest.invariant.so there read.0 parts.1 (omega arith) parts.2 in
    rw (c.in-Ok-push.ensures.items, c.split_at.ensures.back, c.operation_size.ensures.value)
    record {
      so = moved;
      within = within_more (length c.args.octets.now) c.loop-rest.rest.now (operation_size c.loop-rest.rest.now) parts.2 parts.3;
      whole = grind (arith, common_steps, c.loop-rest.invariant.whole, parts.0);
    }

pub loop-rest-smaller : goal.loop-rest-smaller
loop-rest-smaller c =
    let there = some_there c.loop-rest.rest.now c.is_empty.result c.is_empty.ensures c.loop-rest-test.true in
    less_left c.operation_size.result c.loop-rest.rest.now c.split_at.result.1.now (omega (arith, c.operation_size.ensures.value)) there c.split_at.ensures.back

pub returns-in-Err-Wrong : goal.returns-in-Err-Wrong
returns-in-Err-Wrong c =
    let there = some_there c.loop-rest.rest.now c.is_empty.result c.is_empty.ensures c.loop-rest-test.true in
    let read = rw c.in-Err-Wrong.field-0-is at c.in-Err-Wrong.ensures in
    wrong_read first_operation operation_size operation_octets c.args.octets.now c.loop-rest.items.items c.loop-rest.rest.now c.loop-rest.invariant.so there read

pub invariant_of-result : goal.invariant_of-result
invariant_of-result c =
    let none = none_there c.loop-rest.rest.now c.is_empty.result c.is_empty.ensures c.loop-rest-test.false in
    (ops_read c.args.octets.now c.loop-rest.items.items c.loop-rest.rest.now c.loop-rest.invariant.so none c.loop-rest.invariant.within c.loop-rest.invariant.whole).1

pub returns : goal.returns
returns c =
    let none = none_there c.loop-rest.rest.now c.is_empty.result c.is_empty.ensures c.loop-rest-test.false in
    (ops_read c.args.octets.now c.loop-rest.items.items c.loop-rest.rest.now c.loop-rest.invariant.so none c.loop-rest.invariant.within c.loop-rest.invariant.whole).0
