use Rattle.std.proofs.Common.{◌∙◌, List, length, map, Some, ap}
use Rattle.nas_base.specs.Slots.{SlotParts, noted}
use Rattle.nas_base.specs.Walking.{Head}
use Rattle.nas_base.proofs.WalkLaws.{all_noted_more}
use Rattle.nas_base.proofs.elements.pass.Goals as goal

pub loop-preserved : goal.loop-preserved
loop-preserved c =
    let head : Head = record { iei = c.head.inside.iei; value = c.head.inside.value.now; behind = c.head.inside.behind.now } in
    all_noted_more (length c.args.octets.now) c.loop.counter c.args.shape.now c.loop.rest.now c.loop.slots.items c.note.new.slots head
    c.loop-test.true
    (ap (λ (h : Head). Some h) c.head.view_is ∙ c.in-Some.ensures)
    (c.note.ensures ∙ ap (λ (ss : List SlotParts). map (noted head.iei head.value) ss) c.as_mut_slice.ensures.value)
    ∙ c.loop.invariant
