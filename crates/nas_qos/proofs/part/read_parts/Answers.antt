use Rattle.std.proofs.Common.{◌≡◌, Some, length, nat_eq, sym, ◌∙◌, arith}
use Rattle.std.proofs.lemmas.Bool.{and_from}
use Rattle.std.proofs.lemmas.Grind.{common_steps}
use Rattle.nas_qos.specs.Parts.{first_part, is_parts, part_octets, part_size, parts_octets}
use Rattle.nas_qos.proofs.PartLaws.{first_sized, part_wrong, parts_read}
use Rattle.nas_qos.proofs.TurnsReading.{less_left, next_read, none_there, some_there}
use Rattle.nas_qos.proofs.part.read_parts.Goals as goal

pub loop-rest-preserved : goal.loop-rest-preserved
loop-rest-preserved c =
    let read : first_part c.loop-rest.rest.now ≡ Some c.in-Some.part = sym c.first_part.ensures.value ∙ c.in-Some.is in
    let sized = first_sized c.loop-rest.rest.now c.in-Some.part read in
    let there = some_there c.loop-rest.rest.now c.is_empty.result c.is_empty.ensures c.loop-rest-test.true in
    let moved = next_read (λ at os. first_part os) part_size part_octets c.args.octets.now c.loop-rest.items.items c.loop-rest.rest.now c.in-Some.part c.loop-rest.invariant.so there read sized.0 (omega arith) sized.1 in
    record {
      so = rw (c.in-Ok.ensures.items, c.split_at.ensures.back, c.part_size.ensures) moved;
      whole = rw c.in-Ok.ensures.items (grind (arith, common_steps, c.loop-rest.invariant.whole, c.in-Some.ensures.whole));
    }

pub loop-rest-smaller : goal.loop-rest-smaller
loop-rest-smaller c =
    let there = some_there c.loop-rest.rest.now c.is_empty.result c.is_empty.ensures c.loop-rest-test.true in
    less_left c.part_size.result c.loop-rest.rest.now c.split_at.result.1.now (omega (arith, c.part_size.ensures)) there c.split_at.ensures.back

pub returns-in_default : goal.returns-in_default
returns-in_default c =
    let there = some_there c.loop-rest.rest.now c.is_empty.result c.is_empty.ensures c.loop-rest-test.true in
    part_wrong c.args.octets.now c.loop-rest.items.items c.loop-rest.rest.now c.loop-rest.invariant.so there (sym c.first_part.ensures.value ∙ c.in_default.is)

pub invariant_of-result : goal.invariant_of-result
invariant_of-result c =
    let none = none_there c.loop-rest.rest.now c.is_empty.result c.is_empty.ensures c.loop-rest-test.false in
    (parts_read c.args.octets.now c.loop-rest.items.items c.loop-rest.rest.now c.loop-rest.invariant.so none c.loop-rest.invariant.whole c.requires).1

pub returns : goal.returns
returns c =
    let none = none_there c.loop-rest.rest.now c.is_empty.result c.is_empty.ensures c.loop-rest-test.false in
    let read = parts_read c.args.octets.now c.loop-rest.items.items c.loop-rest.rest.now c.loop-rest.invariant.so none c.loop-rest.invariant.whole c.requires in
    (read.0, and_from (is_parts c.loop-rest.items.items) (nat_eq (length (parts_octets c.loop-rest.items.items)) (length c.args.octets.now)) read.1 read.2)
