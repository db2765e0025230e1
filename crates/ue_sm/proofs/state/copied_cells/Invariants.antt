use Rattle.std.proofs.Common.{◌≡◌, take}
use Rattle.ue_sm.proofs.state.copied_cells.Given as goal

-- the sessions so far
abbrev pub invariant-loop-cell : goal.invariant-loop-cell
invariant-loop-cell l = l.cells.items ≡ take l.cell-index l.from
