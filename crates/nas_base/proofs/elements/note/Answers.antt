use Rattle.std.proofs.Common.{◌∙◌, ap, sym}
use Rattle.std.proofs.Math.ListN.{set}
use Rattle.std.proofs.lemmas.List.Edits.{map_over_more}
use Rattle.nas_base.specs.Slots.{noted}
use Rattle.nas_base.proofs.elements.note.Goals as goal

pub loop-slot-preserved : goal.loop-slot-preserved
loop-slot-preserved c =
    ap (set c.loop-slot.slots c.loop-slot.slot-index) (c.note.ensures ∙ ap (noted c.args.iei c.args.value.now) (sym c.slot-item.is))
    ∙ map_over_more (noted c.args.iei c.args.value.now) c.args.slots.now c.loop-slot.slots c.loop-slot.slot-index c.slot-item.result
    c.loop-slot-test.true c.loop-slot.invariant c.slot-item.is
