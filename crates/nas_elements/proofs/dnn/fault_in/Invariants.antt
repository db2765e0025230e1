use Rattle.std.proofs.Common.{◌≡◌, ◌+◌, ◌-◌, ◌≤◌, drop}
use Rattle.nas_elements.specs.Dnn.{is_labels, labels_front}
use Rattle.nas_elements.proofs.dnn.fault_in.Given as goal

-- so far there are labels, and a label of which some octets may be owed, for which there is room
abbrev pub invariant-loop-at : goal.invariant-loop-at
invariant-loop-at l = record {
  room : l.at + l.owed ≤ 100;
  labels : is_labels l.owed (drop l.at l.octets) ≡ is_labels 0 l.octets;
  front : l.at + labels_front (100 - l.at) l.owed (drop l.at l.octets) ≡ labels_front 100 0 l.octets;
}
