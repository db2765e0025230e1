use Rattle.std.proofs.Common.{◌≡◌, ◌≤◌, ◌++◌, length, drop}
use Rattle.nas_qos.specs.Operations.{ops_octets}
use Rattle.nas_qos.proofs.writing.ops_octets.Given as goal

-- the octets so far, before those of the operations that are left
abbrev pub invariant-loop-op : goal.invariant-loop-op
invariant-loop-op l = record {
  told : l.octets.items ++ ops_octets (drop l.op-index l.op-items) ≡ ops_octets l.op-items;
  room : length (ops_octets l.op-items) ≤ 2048;
}
