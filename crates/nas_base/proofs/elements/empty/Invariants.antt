use Rattle.std.proofs.Common.{◌≡◌, ◌++◌, drop, length}
use Rattle.nas_base.specs.Slots.{vacant}
use Rattle.nas_base.proofs.elements.empty.Given as goal

-- the places so far and those of the rows that are left are those of all
abbrev pub invariant-loop-row : goal.invariant-loop-row
invariant-loop-row l = record {
  count : length l.slots.items ≡ l.row-index;
  told : l.slots.items ++ vacant (drop l.row-index l.row-items) ≡ vacant l.row-items;
}
