use Rattle.nas_elements.proofs.IdentityFronts.{wrong_empty}
use Rattle.nas_elements.proofs.identity.Identity.read.Goals as goal

pub returns-in-empty : goal.returns-in-empty
returns-in-empty c = wrong_empty c.args.octets.now c.in-empty.len_below
