use Rattle.std.proofs.Common.{◌≡◌, ◌<◌, ℕ, List, length, Err, subst}
use Rattle.nas_base.specs.Octets.{Copies}
use Rattle.nas_base.specs.declared.octets.OctetsRefusal.{OctetsRefusal}
use Rattle.nas_base.specs.declared.octets.OctetsRefusal.TheVariants.{TooMany}
use Rattle.nas_elements.proofs.IdentityFronts.{wrong_long}
use Rattle.nas_elements.proofs.identity.keep.Goals as goal

above : (octets : List ℕ) (refusal : OctetsRefusal) (size : ℕ) → refusal ≡ TooMany size → Copies 4100 octets (Err refusal) → 4100 < length octets
above octets refusal size is copies = (subst (λ r. Copies 4100 octets (Err r)) is copies).0

pub returns-in-Err-TooMany : goal.returns-in-Err-TooMany
returns-in-Err-TooMany c = wrong_long c.args.octets.now c.requires.kept
    (above c.args.octets.now c.in-Err-TooMany.field-0 c.in-Err-TooMany.field-0-0 c.in-Err-TooMany.field-0-is c.in-Err-TooMany.ensures)
