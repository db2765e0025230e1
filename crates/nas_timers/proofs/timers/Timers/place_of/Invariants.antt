use Rattle.std.proofs.Common.{◌≡◌, ◌+◌, drop}
use Rattle.nas_timers.specs.Places.{place_of}
use Rattle.nas_timers.proofs.timers.Timers.place_of.Given as goal

-- so many stand before the name, and those of the rest
abbrev pub invariant-loop-entry : goal.invariant-loop-entry
invariant-loop-entry l = record {
  counted : l.place ≡ l.entry-index;
  whole : l.place + place_of l.id (drop l.entry-index l.entry-items) ≡ place_of l.id l.entry-items;
}
