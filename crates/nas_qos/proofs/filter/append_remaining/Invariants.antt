use Rattle.std.proofs.Common.{◌≡◌, ◌++◌, take}
use Rattle.nas_qos.specs.Applying.{remaining}
use Rattle.nas_qos.proofs.filter.append_remaining.Given as goal

-- those of the filters so far that are left
abbrev pub invariant-loop-filter : goal.invariant-loop-filter
invariant-loop-filter l = l.items.items ≡ l.initial.items.items ++ remaining l.gone (take l.filter-index l.filters)
