use Rattle.std.proofs.Common.{◌≡◌, ◌-◌, ◌++◌}
use Rattle.ue_sm.specs.State.{inactive}
use Rattle.ue_sm.proofs.state.inactive_cells.Given as goal

-- the sessions so far, and those that are left
abbrev pub invariant-loop-number : goal.invariant-loop-number
invariant-loop-number l = l.cells.items ++ inactive (15 - l.number) ≡ inactive 15
