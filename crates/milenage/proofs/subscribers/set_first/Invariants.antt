use Rattle.std.proofs.Common.{◌≡◌, ◌++◌, take, drop}
use Rattle.milenage.specs.Home.{with_sqn}
use Rattle.milenage.proofs.subscribers.set_first.Given as goal

-- the subscribers so far are as they were, and SQN_HE is to be set among the others
abbrev pub invariant-loop-subscriber : goal.invariant-loop-subscriber
invariant-loop-subscriber l = record {
  same : l.subscribers ≡ l.initial.subscribers;
  told : take l.subscriber-index l.subscribers ++ with_sqn l.supi l.sqn (drop l.subscriber-index l.subscribers)
      ≡ with_sqn l.supi l.sqn l.subscribers;
}
