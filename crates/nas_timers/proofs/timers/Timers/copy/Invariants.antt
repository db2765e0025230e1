use Rattle.std.proofs.Common.{◌≡◌, take}
use Rattle.nas_timers.proofs.timers.Timers.copy.Given as goal

-- the first of them are copied
abbrev pub invariant-loop-entry : goal.invariant-loop-entry
invariant-loop-entry l = l.entries.items ≡ take l.entry-index l.entry-items
