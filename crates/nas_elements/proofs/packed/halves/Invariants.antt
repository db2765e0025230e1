use Rattle.std.proofs.Common.{◌≡◌, ◌*◌, ◌++◌, length, drop}
use Rattle.nas_elements.specs.Packed.{halves_of}
use Rattle.nas_elements.proofs.packed.halves.Given as goal

-- the halves so far and those of the octets that are left are those of all
abbrev pub invariant-loop-octet : goal.invariant-loop-octet
invariant-loop-octet l = record {
  count : length l.halves.items ≡ 2 * l.octet-index;
  told : l.halves.items ++ halves_of (drop l.octet-index l.octets) ≡ halves_of l.octets;
}
