use Rattle.std.proofs.Common.{◌≡◌, drop}
use Rattle.nas_world.specs.Honest.{card_in}
use Rattle.nas_world.proofs.honesty.card_of.Given as goal

-- the keys that are left have the subscriber's, if any has
abbrev pub invariant-loop-card : goal.invariant-loop-card
invariant-loop-card l = card_in l.supi (drop l.card-index l.cards) ≡ card_in l.supi l.cards
