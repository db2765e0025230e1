use Rattle.std.proofs.Common.{◌≡◌, ◌+◌, ◌≤◌, length, drop}
use Rattle.nas_elements.specs.Layout.{met}
use Rattle.nas_elements.proofs.layout.met_by.Given as goal

-- what was met and what the lines that are left meet is the whole
abbrev pub invariant-loop-at : goal.invariant-loop-at
invariant-loop-at l = record {
  there : l.at ≤ length l.octets;
  told : l.at + met l.before (drop l.at l.lines) (drop l.at l.octets) ≡ met 0 l.lines l.octets;
}
