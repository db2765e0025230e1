use Rattle.smf_core.proofs.OthersLaws.{others_stay}
use Rattle.smf_core.proofs.laws.others_stay.Goals as goal

pub returns : goal.returns
returns c = others_stay
