use Rattle.nas_base.proofs.FirstsLaws.{firsts_are_kept}
use Rattle.nas_base.proofs.laws.firsts_are_kept.Goals as goal

pub returns : goal.returns
returns c = firsts_are_kept
