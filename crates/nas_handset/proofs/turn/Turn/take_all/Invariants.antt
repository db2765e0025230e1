use Rattle.std.proofs.Common.{◌≡◌}
use Rattle.nas_handset.specs.Turns.{all_taken}
use Rattle.nas_handset.proofs.turn.Turn.take_all.Given as goal

-- what is left to be taken onto where the turn stands gives the whole
abbrev pub invariant-loop-out : goal.invariant-loop-out
invariant-loop-out l = all_taken l.out-iterator.rest.items l.self ≡ all_taken l.fn.outs l.initial.self
