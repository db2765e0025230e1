use Rattle.std.proofs.Common.{◌≡◌, None, arith, subst}
use Rattle.nas_elements.specs.Identity.{identity_in}
use Rattle.nas_elements.specs.Reads.{IsWrongAt}
use Rattle.nas_elements.proofs.IdentityFronts.{wrong_as_suci}
use Rattle.nas_elements.proofs.identity.read_suci.Goals as goal

pub returns-in-Err : goal.returns-in-Err
returns-in-Err c = subst (λ at. (identity_in c.args.octets.now ≡ None) × IsWrongAt identity_in c.args.octets.now at) (omega (arith, c.max.ensures, c.min.ensures))
    (wrong_as_suci c.args.octets.now c.in-Err.wrong.at c.requires.first c.requires.some c.requires.kept c.in-Err.ensures)
