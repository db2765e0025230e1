use Rattle.std.proofs.Common.{◌≡◌, ◌≤◌, ◌*◌, ◌++◌, length, drop}
use Rattle.nas_elements.specs.Nssai.{nssai_octets}
use Rattle.nas_elements.proofs.nssai.Nssai.octets.Given as goal

-- the octets so far, before those of the slices that are left
abbrev pub invariant-loop-slice : goal.invariant-loop-slice
invariant-loop-slice l = record {
  size : length l.octets.items ≤ 5 * l.slice-index;
  told : l.octets.items ++ nssai_octets (drop l.slice-index l.slice-items) ≡ nssai_octets l.slice-items;
}
