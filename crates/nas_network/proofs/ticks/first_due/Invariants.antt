use Rattle.std.proofs.Common.{◌≡◌, None, drop}
use Rattle.nas_network.specs.Ticks.{first_due_from}
use Rattle.nas_network.proofs.ticks.first_due.Given as goal

-- what was found, and what the others have that is sooner, is the first of all
abbrev pub invariant-loop-subscriber : goal.invariant-loop-subscriber
invariant-loop-subscriber l = first_due_from l.now l.found (drop l.subscriber-index l.timers) ≡ first_due_from l.now None l.timers
