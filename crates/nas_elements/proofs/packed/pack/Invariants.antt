use Rattle.std.proofs.Common.{◌≡◌, true, ◌+◌, ◌*◌, ◌++◌, length}
use Rattle.nas_base.specs.Digits.{all_digits}
use Rattle.nas_elements.specs.Packed.{packed}
use Rattle.nas_elements.proofs.packed.pack.Given as goal

-- what is packed and what packing the digits that are left gives are the whole
abbrev pub invariant-loop-left : goal.invariant-loop-left
invariant-loop-left l = record {
  count : 2 * length l.octets.items + length l.left ≡ length l.digits;
  digits : all_digits l.left ≡ true;
  told : l.octets.items ++ packed l.left ≡ packed l.digits;
}

abbrev pub decreases-loop-left : goal.decreases-loop-left
decreases-loop-left l = length l.left
