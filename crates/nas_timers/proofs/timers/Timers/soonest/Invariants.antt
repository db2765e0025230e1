use Rattle.std.proofs.Common.{◌≡◌, None, drop}
use Rattle.nas_timers.specs.Timers.{soonest_from}
use Rattle.nas_timers.proofs.timers.Timers.soonest.Given as goal

-- what was found, and what the rest has that is sooner, is the soonest of all
abbrev pub invariant-loop-entry : goal.invariant-loop-entry
invariant-loop-entry l = soonest_from l.now l.found (drop l.entry-index l.entry-items) ≡ soonest_from l.now None l.entry-items
