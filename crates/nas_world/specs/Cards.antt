-- The keys of subscribers.
use Rattle.nas_network.specs.Config.{SubscriberValues}
use Rattle.nas_world.specs.declared.cards.Card.{Card}

abbrev pub card_of : SubscriberValues → Card
card_of s = record { supi = s.supi; k = s.k; opc = s.opc; field = s.field }
