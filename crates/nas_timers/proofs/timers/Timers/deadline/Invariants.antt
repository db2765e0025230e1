use Rattle.std.proofs.Common.{◌≡◌, drop}
use Rattle.nas_timers.specs.Timers.{deadline_of}
use Rattle.nas_timers.proofs.timers.Timers.deadline.Given as goal

-- the timers that are left have the name's deadline, if any has
abbrev pub invariant-loop-entry : goal.invariant-loop-entry
invariant-loop-entry l = deadline_of l.id (drop l.entry-index l.entry-items) ≡ deadline_of l.id l.entry-items
