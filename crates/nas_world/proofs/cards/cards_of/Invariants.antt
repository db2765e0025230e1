use Rattle.std.proofs.Common.{◌≡◌, ◌++◌, drop, map}
use Rattle.nas_world.specs.Cards.{card_of}
use Rattle.nas_world.proofs.cards.cards_of.Given as goal

-- the cards so far and those of the subscribers that are left
abbrev pub invariant-loop-subscriber : goal.invariant-loop-subscriber
invariant-loop-subscriber l = l.cards.items ++ map card_of (drop l.subscriber-index l.subscribers) ≡ map card_of l.subscribers
