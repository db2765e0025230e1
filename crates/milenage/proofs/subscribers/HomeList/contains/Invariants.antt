use Rattle.std.proofs.Common.{◌≡◌, drop}
use Rattle.milenage.specs.Home.{is_kept}
use Rattle.milenage.proofs.subscribers.HomeList.contains.Given as goal

-- one of those that are left has the SUPI exactly where one of all has it
abbrev pub invariant-loop-subscriber : goal.invariant-loop-subscriber
invariant-loop-subscriber l = is_kept l.supi (drop l.subscriber-index l.subscriber-items) ≡ is_kept l.supi l.subscriber-items
