use Rattle.std.proofs.Common.{◌≡◌, ◌++◌, map, take, drop}
use Rattle.nas_base.specs.Slots.{noted}
use Rattle.nas_base.proofs.elements.note.Given as goal

-- each place so far was noted in
abbrev pub invariant-loop-slot : goal.invariant-loop-slot
invariant-loop-slot l = l.slots ≡ map (noted l.iei l.value) (take l.slot-index l.initial.slots) ++ drop l.slot-index l.initial.slots
