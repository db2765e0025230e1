use Rattle.std.proofs.Common.{◌≡◌, take}
use Rattle.milenage.proofs.subscribers.copies.Given as goal

-- the subscribers so far
abbrev pub invariant-loop-subscriber : goal.invariant-loop-subscriber
invariant-loop-subscriber l = l.items.items ≡ take l.subscriber-index l.subscribers
