use Rattle.std.proofs.Common.{◌≡◌, drop}
use Rattle.smf_core.specs.State.{subscriber_in}
use Rattle.smf_core.proofs.smf.record_of.Given as goal

-- what is looked for is in the records that are left
abbrev pub invariant-loop-subscriber : goal.invariant-loop-subscriber
invariant-loop-subscriber l =
    subscriber_in l.supi (drop l.subscriber-index l.subscribers) ≡ subscriber_in l.supi l.subscribers
