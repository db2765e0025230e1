use Rattle.std.proofs.Common.{◌≡◌, ◌++◌, map, drop}
use Rattle.nas_network.specs.State.{no_timers}
use Rattle.nas_network.proofs.timers.none_run.Given as goal

-- the timers so far and those of the subscribers that are left
abbrev pub invariant-loop-subscriber : goal.invariant-loop-subscriber
invariant-loop-subscriber l = l.timers.items ++ map no_timers (drop l.subscriber-index l.subscribers) ≡ map no_timers l.subscribers
