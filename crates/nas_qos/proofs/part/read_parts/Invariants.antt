use Rattle.std.proofs.Common.{◌≡◌, true, length}
use Rattle.std.specs.List.{list_all}
use Rattle.nas_qos.specs.Parts.{first_part, is_part, part_octets, part_size}
use Rattle.nas_qos.proofs.TurnsReading.{Turned}
use Rattle.nas_qos.proofs.part.read_parts.Given as goal

-- the components so far
abbrev pub invariant-loop-rest : goal.invariant-loop-rest
invariant-loop-rest l = record {
  so : Turned (λ at os. first_part os) part_size part_octets l.octets l.items.items l.rest;
  whole : list_all is_part l.items.items ≡ true;
}

abbrev pub decreases-loop-rest : goal.decreases-loop-rest
decreases-loop-rest l = length l.rest
