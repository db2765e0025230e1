use Rattle.std.proofs.Common.{◌≡◌, ◌++◌, drop, map}
use Rattle.amf_core.specs.State.{unknown_yet}
use Rattle.amf_core.proofs.amf.subscribers_of.Given as goal

-- the records so far and those of the subscribers that are left
abbrev pub invariant-loop-subscriber : goal.invariant-loop-subscriber
invariant-loop-subscriber l = l.records.items ++ map unknown_yet (drop l.subscriber-index l.configured) ≡ map unknown_yet l.configured
