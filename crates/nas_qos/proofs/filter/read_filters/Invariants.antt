use Rattle.nas_qos.proofs.FilterReading.{FiltersRead}
use Rattle.nas_qos.proofs.filter.read_filters.Given as goal

-- the filters so far, and how many octets they have
abbrev pub invariant-loop-done : goal.invariant-loop-done
invariant-loop-done l = FiltersRead l.number l.code l.octets l._done l.items.items l.size
