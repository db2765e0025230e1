use Rattle.std.proofs.Common.{◌≡◌, ◌-◌, length}
use Rattle.nas_base.specs.Slots.{all_noted, vacant}
use Rattle.nas_base.specs.Walking.{elements_in, elements_within}
use Rattle.nas_base.proofs.elements.pass.Given as goal

-- what is left to be found, noted in the places so far, is the whole
abbrev pub invariant-loop : goal.invariant-loop
invariant-loop l =
    all_noted l.slots.items (elements_within (length l.octets - l.counter) l.shape l.rest) ≡ all_noted (vacant l.shape) (elements_in l.shape l.octets)
