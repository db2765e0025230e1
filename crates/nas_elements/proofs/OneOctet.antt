-- Values of one octet, which any octet has.
use Rattle.std.proofs.Common.{◌≡◌, ◌<◌, ℕ, true, false, List, [], ◌∷◌, length, min, Option, is_some, arith, refl}
use Rattle.nas_elements.proofs.Sized.{wrong_number}
use Rattle.nas_elements.specs.Algs.{algs_in}
use Rattle.nas_elements.specs.Asi.{asi_in}
use Rattle.nas_elements.specs.Reads.{IsWrongAt}
use Rattle.nas_elements.specs.Timer3.{timer3_in}

pub wrong_octet : {A : Type 0} (reading : List ℕ → Option A) (octets : List ℕ)
    → ((o : ℕ) → is_some (reading (o ∷ [])) ≡ true)
    → ((o p : ℕ) (os : List ℕ) → is_some (reading (o ∷ p ∷ os)) ≡ false)
    → IsWrongAt reading octets (min (length octets) 1)
wrong_octet reading octets one more = wrong_number reading 1 octets of_one of_more where
  of_one : (os : List ℕ) → length os ≡ 1 → is_some (reading os) ≡ true
  of_one [] h = grind (arith)
  of_one (o ∷ []) h = one o
  of_one (o ∷ p ∷ os) h = grind (arith)

  of_more : (os : List ℕ) → 1 < length os → is_some (reading os) ≡ false
  of_more [] h = grind (arith)
  of_more (o ∷ []) h = grind (arith)
  of_more (o ∷ p ∷ os) h = more o p os

pub wrong_algs : (octets : List ℕ) → IsWrongAt algs_in octets (min (length octets) 1)
wrong_algs octets = wrong_octet algs_in octets (λ o. refl) (λ o p os. refl)

pub wrong_timer3 : (octets : List ℕ) → IsWrongAt timer3_in octets (min (length octets) 1)
wrong_timer3 octets = wrong_octet timer3_in octets (λ o. refl) (λ o p os. refl)

pub wrong_asi : (octets : List ℕ) → IsWrongAt asi_in octets (min (length octets) 1)
wrong_asi octets = wrong_octet asi_in octets (λ o. refl) (λ o p os. refl)
