use Rattle.std.proofs.Common.{◌≡◌, drop}
use Rattle.milenage.specs.Home.{home_record}
use Rattle.milenage.proofs.subscribers.HomeList.find.Given as goal

-- the first of those that are left is the first of all
abbrev pub invariant-loop-subscriber : goal.invariant-loop-subscriber
invariant-loop-subscriber l =
    home_record l.supi (drop l.subscriber-index l.subscriber-items) ≡ home_record l.supi l.subscriber-items
