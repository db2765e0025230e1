use Rattle.std.proofs.Common.{◌≡◌, drop}
use Rattle.nas_network.specs.TakingOver.{timers_taken}
use Rattle.nas_network.proofs.timers.take_timers.Given as goal

-- what is left to be taken gives the whole
abbrev pub invariant-loop-out : goal.invariant-loop-out
invariant-loop-out l = timers_taken (drop l.out-index l.outs) l.timers ≡ timers_taken l.outs l.initial.timers
