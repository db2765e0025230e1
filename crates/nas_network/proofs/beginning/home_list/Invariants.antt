use Rattle.std.proofs.Common.{◌≡◌, ◌++◌, drop}
use Rattle.nas_network.specs.Config.{at_home}
use Rattle.nas_network.proofs.beginning.home_list.Given as goal

-- the subscribers so far and those that are left
abbrev pub invariant-loop-subscriber : goal.invariant-loop-subscriber
invariant-loop-subscriber l = l.home ++ at_home (drop l.subscriber-index l.subscribers) ≡ at_home l.subscribers
