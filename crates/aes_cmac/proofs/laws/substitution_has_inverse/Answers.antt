use Rattle.aes_cmac.proofs.SubstitutionLaws.{substitution_has_inverse}
use Rattle.aes_cmac.proofs.laws.substitution_has_inverse.Goals as goal

pub returns : goal.returns
returns c = substitution_has_inverse
