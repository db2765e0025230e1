use Rattle.std.proofs.Common.{◌≡◌, drop}
use Rattle.nas_network.specs.TakingOver.{timers_after}
use Rattle.nas_network.proofs.timers.change_all.Given as goal

-- what is left to happen gives the whole
abbrev pub invariant-loop-change : goal.invariant-loop-change
invariant-loop-change l = timers_after (drop l.change-index l.changes) l.timers ≡ timers_after l.changes l.initial.timers
