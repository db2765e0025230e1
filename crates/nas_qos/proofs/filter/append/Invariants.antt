use Rattle.std.proofs.Common.{◌≡◌, ◌++◌, take}
use Rattle.nas_qos.proofs.filter.append.Given as goal

-- the filters so far
abbrev pub invariant-loop-filter : goal.invariant-loop-filter
invariant-loop-filter l = l.items.items ≡ l.initial.items.items ++ take l.filter-index l.filters
