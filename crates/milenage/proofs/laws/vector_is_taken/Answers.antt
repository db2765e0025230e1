use Rattle.milenage.proofs.ChallengeLemmas.{vector_is_taken}
use Rattle.milenage.proofs.laws.vector_is_taken.Goals as goal

pub returns : goal.returns
returns c = vector_is_taken _ _ _ _ _ _ c.told-opc c.told-field c.requires
