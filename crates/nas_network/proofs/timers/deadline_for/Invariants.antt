use Rattle.std.proofs.Common.{◌≡◌, drop}
use Rattle.nas_network.specs.State.{deadline_for}
use Rattle.nas_network.proofs.timers.deadline_for.Given as goal

-- the subscribers that are left have the deadline, if any has
abbrev pub invariant-loop-subscriber : goal.invariant-loop-subscriber
invariant-loop-subscriber l = deadline_for l.supi l.id (drop l.subscriber-index l.timers) ≡ deadline_for l.supi l.id l.timers
