use Rattle.std.proofs.Common.{◌≡◌, ◌≤◌, ◌+◌, ◌++◌, length, drop}
use Rattle.nas_qos.specs.Filters.{filters_octets}
use Rattle.nas_qos.proofs.writing.put_filters.Given as goal

-- the octets so far, before those of the filters that are left
abbrev pub invariant-loop-filter : goal.invariant-loop-filter
invariant-loop-filter l = record {
  told : l.out.items ++ filters_octets l.code (drop l.filter-index l.filters) ≡ l.initial.out.items ++ filters_octets l.code l.filters;
  room : length l.initial.out.items + length (filters_octets l.code l.filters) ≤ 2048;
}
