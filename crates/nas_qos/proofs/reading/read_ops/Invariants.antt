use Rattle.std.proofs.Common.{◌≡◌, ◌≤◌, ◌-◌, true, length}
use Rattle.std.specs.List.{list_all}
use Rattle.nas_qos.specs.Operations.{first_operation, is_operation, operation_octets, operation_size}
use Rattle.nas_qos.proofs.TurnsReading.{Turned}
use Rattle.nas_qos.proofs.reading.read_ops.Given as goal

-- the operations so far
abbrev pub invariant-loop-rest : goal.invariant-loop-rest
invariant-loop-rest l = record {
  so : Turned first_operation operation_size operation_octets l.octets l.items.items l.rest;
  within : length l.octets - length l.rest ≤ 2048;
  whole : list_all is_operation l.items.items ≡ true;
}

abbrev pub decreases-loop-rest : goal.decreases-loop-rest
decreases-loop-rest l = length l.rest
