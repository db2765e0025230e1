use Rattle.std.proofs.Common.{◌≡◌}
use Rattle.nas_handset.specs.Ticks.{all_fired}
use Rattle.nas_handset.proofs.turn.Turn.fire_all.Given as goal

-- what is left to fire onto where the turn stands gives the whole
abbrev pub invariant-loop-id : goal.invariant-loop-id
invariant-loop-id l = all_fired l.id-iterator.rest.items l.self ≡ all_fired l.fn.list.items l.initial.self
