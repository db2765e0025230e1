-- Both ends, and all that was logged of them.
use Rattle.std.specs.Prelude.{ℕ, Bool, List, [], map, replicate}
use Rattle.nas_base.specs.Plmn.{PlmnIdentity}
use Rattle.nas_security.specs.Contexts.{SecurityContext}
use Rattle.nas_security.specs.declared.sends.Send.{Send}
use Rattle.nas_handset.specs.State as handset
use Rattle.nas_handset.specs.State.{HandsetState}
use Rattle.nas_network.specs.State as network
use Rattle.nas_network.specs.State.{NetworkState}
use Rattle.nas_world.specs.Cards.{card_of}
use Rattle.nas_world.specs.Config.{WorldValues}
use Rattle.nas_world.specs.Honest.{JudgedLog, all_honest}
use Rattle.nas_world.specs.declared.cards.Card.{Card}
use Rattle.nas_world.specs.declared.passes.Passing.{Passing}

-- Both ends, and the random octets that stand for the network. What each end sent, in order; the contexts that the handset took into
-- use; what passed a check. And what was configured: the PLMN, the keys of the network's subscribers, and the handset's SUPI.
pub record WorldState : Type 0 where
  pub handset : HandsetState
  pub network : NetworkState
  pub random : List ℕ
  pub up : List Send
  pub down : List Send
  pub taken : List SecurityContext
  pub passes : List Passing
  pub plmn : PlmnIdentity
  pub cards : List Card
  pub supi : List ℕ

-- before any event
abbrev pub first : WorldValues → WorldState
first config = record {
  handset = handset.first config.handset;
  network = network.first config.net;
  random = replicate 16 0;
  up = [];
  down = [];
  taken = [];
  passes = [];
  plmn = config.net.plmn;
  cards = map card_of config.net.subscribers;
  supi = config.handset.supi;
}

-- what is judged of it, and whether nobody forged
abbrev pub judged_of : WorldState → JudgedLog
judged_of w = record { up = w.up; down = w.down; passes = w.passes; plmn = w.plmn; cards = w.cards }

abbrev pub honest : WorldState → Bool
honest w = all_honest (judged_of w)
