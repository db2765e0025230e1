use Rattle.std.proofs.Common.{◌≡◌, ◌-◌, ◌++◌}
use Rattle.nas_timers.specs.declared.timer_id.TheConstants.{NAMES}
use Rattle.nas_handset.specs.Ticks.{due_within}
use Rattle.nas_handset.proofs.ticks.due_list.Given as goal

-- those that were found, and those that are due of the others, are all
abbrev pub invariant-loop : goal.invariant-loop
invariant-loop l = l.list.items ++ due_within (NAMES - l.counter) l.now l.left ≡ due_within NAMES l.fn.now l.fn.timers
