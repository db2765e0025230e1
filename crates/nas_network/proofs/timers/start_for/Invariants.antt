use Rattle.std.proofs.Common.{◌≡◌, ◌++◌, take, drop}
use Rattle.nas_network.specs.State.{started_for}
use Rattle.nas_network.proofs.timers.start_for.Given as goal

-- the timers so far are as they were, and the SUPI's are among the others
abbrev pub invariant-loop-subscriber : goal.invariant-loop-subscriber
invariant-loop-subscriber l = record {
  same : l.timers ≡ l.initial.timers;
  told : take l.subscriber-index l.timers ++ started_for l.supi l.id l.at (drop l.subscriber-index l.timers) ≡ started_for l.supi l.id l.at l.timers;
}
