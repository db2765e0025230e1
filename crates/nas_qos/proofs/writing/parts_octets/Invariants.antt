use Rattle.std.proofs.Common.{◌≡◌, ◌≤◌, ◌++◌, length, drop}
use Rattle.nas_qos.specs.Parts.{parts_octets}
use Rattle.nas_qos.proofs.writing.parts_octets.Given as goal

-- the octets so far, before those of the components that are left
abbrev pub invariant-loop-part : goal.invariant-loop-part
invariant-loop-part l = record {
  told : l.octets.items ++ parts_octets (drop l.part-index l.part-items) ≡ parts_octets l.part-items;
  room : length (parts_octets l.part-items) ≤ 255;
}
