use Rattle.std.proofs.Common.{◌≡◌, ◌-◌}
use Rattle.ue_sm.specs.Mobility.{leave_one}
use Rattle.ue_sm.specs.State.{each}
use Rattle.ue_sm.proofs.state.UeSm.leave_all.Given as goal

-- the sessions before this one are left
abbrev pub invariant-loop-number : goal.invariant-loop-number
invariant-loop-number l = l.self ≡ each (leave_one l.ending) (l.number - 1) l.initial.self
