use Rattle.std.proofs.Common.{◌≡◌, ◌++◌, drop}
use Rattle.nas_network.specs.Config.{at_amf}
use Rattle.nas_network.proofs.beginning.amf_subscribers.Given as goal

-- the subscribers so far and those that are left
abbrev pub invariant-loop-subscriber : goal.invariant-loop-subscriber
invariant-loop-subscriber l = l.items.items ++ at_amf (drop l.subscriber-index l.subscribers) ≡ at_amf l.subscribers
