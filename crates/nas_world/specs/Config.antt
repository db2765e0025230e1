-- What a world is made of: the network with its subscribers, and the handset.
use Rattle.nas_network.specs.Config.{NetValues}
use Rattle.ue_mm.specs.Config.{HandsetValues}

pub record WorldValues : Type 0 where
  pub net : NetValues
  pub handset : HandsetValues
