use Rattle.milenage.proofs.ChallengeLemmas.{auts_opens}
use Rattle.milenage.proofs.laws.auts_opens.Goals as goal

pub returns : goal.returns
returns c = auts_opens _ _ _ c.args.autn.now _ c.told-opc c.requires
