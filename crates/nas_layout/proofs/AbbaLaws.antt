-- Octets stop being the front of an ABBA at the greatest number.
use Rattle.std.proofs.Common.{ℕ, List, length, min, arith}
use Rattle.std.proofs.lemmas.Bool.Decides.{nat_tests}
use Rattle.nas_elements.specs.Reads.{IsWrongAt}
use Rattle.nas_elements.proofs.Sized.{wrong_number}
use Rattle.nas_layout.specs.Abba.{abba_in}

pub wrong_abba : (octets : List ℕ) → IsWrongAt abba_in octets (min (length octets) 255)
wrong_abba octets = wrong_number abba_in 255 octets (λ os h. grind (arith, nat_tests)) (λ os h. grind (arith, nat_tests))
