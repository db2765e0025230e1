use Rattle.std.proofs.Common.{◌≡◌, drop}
use Rattle.nas_base.specs.Slots.{taken}
use Rattle.nas_base.specs.Walking.{value_of}
use Rattle.nas_base.proofs.elements.Elements.get.Given as goal

-- the places that are left have the value, if any has
abbrev pub invariant-loop-slot : goal.invariant-loop-slot
invariant-loop-slot l = value_of l.iei (taken (drop l.slot-index l.slot-items)) ≡ value_of l.iei (taken l.slot-items)
