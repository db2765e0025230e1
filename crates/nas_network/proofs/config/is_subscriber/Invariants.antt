use Rattle.std.proofs.Common.{◌≡◌, drop}
use Rattle.nas_network.specs.Config.{is_subscriber}
use Rattle.nas_network.proofs.config.is_subscriber.Given as goal

-- the SUPI is among all exactly where it is among those that are left
abbrev pub invariant-loop-subscriber : goal.invariant-loop-subscriber
invariant-loop-subscriber l = is_subscriber l.supi (drop l.subscriber-index l.subscribers) ≡ is_subscriber l.supi l.subscribers
