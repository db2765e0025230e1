use Rattle.std.proofs.Common.{◌≡◌, take}
use Rattle.nas_network.proofs.timers.copies.Given as goal

-- the timers so far
abbrev pub invariant-loop-subscriber : goal.invariant-loop-subscriber
invariant-loop-subscriber l = l.timers.items ≡ take l.subscriber-index l.from
