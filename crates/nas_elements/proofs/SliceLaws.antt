-- What holds of the octets of slices.
use Rattle.std.proofs.Common.{ℕ, List, length, min, arith}
use Rattle.std.proofs.lemmas.Bool.Decides.{nat_tests}
use Rattle.nas_elements.specs.Reads.{IsWrongAt}
use Rattle.nas_elements.specs.Slice.{slice_in}
use Rattle.nas_elements.proofs.Sized.{wrong_number}

pub wrong_slice : (octets : List ℕ) → IsWrongAt slice_in octets (min (length octets) 8)
wrong_slice octets = wrong_number slice_in 8 octets (λ os h. grind (arith, nat_tests)) (λ os h. grind (arith, nat_tests))
