use Rattle.std.proofs.Common.{◌≡◌, ◌-◌}
use Rattle.ue_sm.specs.Mobility.{stop_one}
use Rattle.ue_sm.specs.State.{each}
use Rattle.ue_sm.proofs.work.Work.stop_all.Given as goal

-- the timers of the sessions before this one are stopped, and what is kept is as it was
abbrev pub invariant-loop-number : goal.invariant-loop-number
invariant-loop-number l =
    (l.self ≡ each (stop_one l.ending) (l.number - 1) l.initial.self) × (l.self.state ≡ l.initial.self.state)
