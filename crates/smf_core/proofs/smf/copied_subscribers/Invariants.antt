use Rattle.std.proofs.Common.{◌≡◌, take}
use Rattle.smf_core.proofs.smf.copied_subscribers.Given as goal

-- the records so far
abbrev pub invariant-loop-subscriber : goal.invariant-loop-subscriber
invariant-loop-subscriber l = l.subscribers.items ≡ take l.subscriber-index l.from
