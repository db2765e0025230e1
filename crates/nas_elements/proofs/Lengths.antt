-- How many octets values have.
use Rattle.std.proofs.Common.{ℕ, ◌+◌, ◌≤◌, List, [], ◌∷◌, length, arith, length-take}
use Rattle.std.proofs.lemmas.Grind.{common_steps}
use Rattle.nas_elements.specs.Packed.{packed}
use Rattle.nas_elements.specs.Suci.{SuciParts, suci_octets}

pub length-packed : (digits : List ℕ) → length (packed digits) ≤ length digits
length-packed [] = omega arith
length-packed (a ∷ []) = omega arith
length-packed (a ∷ b ∷ rest) = omega (arith, length-packed rest)

pub length-suci_octets : (s : SuciParts) → length (suci_octets s) ≤ 8 + length s.msin
length-suci_octets s = grind (arith, common_steps, length-packed s.msin, length-take)
