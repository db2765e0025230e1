use Rattle.std.proofs.Common.{◌≡◌, ◌++◌, drop, map}
use Rattle.smf_core.specs.State.{unused}
use Rattle.smf_core.proofs.smf.subscribers_of.Given as goal

-- the records so far and those of the subscribers that are left
abbrev pub invariant-loop-subscriber : goal.invariant-loop-subscriber
invariant-loop-subscriber l =
    l.subscribers.items ++ map unused (drop l.subscriber-index l.configured) ≡ map unused l.configured
