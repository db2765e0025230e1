-- Items that are written one after the other are read back.
use Rattle.std.proofs.Common.{◌≡◌, ◌<◌, ◌≤◌, ◌+◌, ℕ, zero, suc, Bool, true, ◌&&◌, List, [], ◌∷◌, ◌++◌, length, drop, length-append, Option, Some, Ok, ◌∙◌, ap, arith, refl}
use Rattle.std.specs.List.{list_all}
use Rattle.std.proofs.lemmas.Grind.{common_steps}
use Rattle.nas_qos.specs.Turns.{all_octets, before, in_turn}

pub both : (a b : Bool) → (a && b) ≡ true → (a ≡ true) × (b ≡ true)
both a b h = (grind (arith, h), grind (arith, h))

-- an item that is written is found at the front of its octets and others, with its size
pub record Back {A : Type 0} (first : ℕ → List ℕ → Option A) (size : List ℕ → ℕ) (spelled : A → List ℕ) (at : ℕ) (item : A) (rest : List ℕ) : Type 0 where
  pub found : first at (spelled item ++ rest) ≡ Some item
  pub sized : size (spelled item ++ rest) ≡ length (spelled item)

in_turn-some : {A : Type 0} (first : ℕ → List ℕ → Option A) (size : List ℕ → ℕ) (most at : ℕ) (octets : List ℕ) → 0 < length octets
    → in_turn first size (suc most) at octets ≡ before at (first at octets) (in_turn first size most (at + size octets) (drop (size octets) octets))
in_turn-some first size most at [] some = absurd (omega arith)
in_turn-some first size most at (octet ∷ octets) some = refl

pub all_back : {A : Type 0} (first : ℕ → List ℕ → Option A) (size : List ℕ → ℕ) (spelled : A → List ℕ) (good : A → Bool) (limit : ℕ)
    → ((at : ℕ) (item : A) (rest : List ℕ) → good item ≡ true → at + length (spelled item) ≤ limit → Back first size spelled at item rest)
    → ((item : A) → 0 < length (spelled item))
    → (items : List A) (most at : ℕ) → list_all good items ≡ true → length (all_octets spelled items) ≤ most → at + length (all_octets spelled items) ≤ limit
    → in_turn first size most at (all_octets spelled items) ≡ Ok items
all_back first size spelled good limit back some [] zero at whole enough fits = refl
all_back first size spelled good limit back some [] (suc most) at whole enough fits = refl
all_back first size spelled good limit back some (item ∷ items) zero at whole enough fits =
    absurd (omega (arith, length-append (spelled item) (all_octets spelled items), some item, enough))
all_back {A} first size spelled good limit back some (item ∷ items) (suc most) at whole enough fits =
    let here = some item in
    let rest : List ℕ = all_octets spelled items in
    let parts = both (good item) (list_all good items) whole in
    let sizes : length (spelled item ++ rest) ≡ length (spelled item) + length rest = length-append (spelled item) rest in
    let one = back at item rest parts.0 (omega (arith, sizes, fits)) in
    let left : drop (size (spelled item ++ rest)) (spelled item ++ rest) ≡ rest = rw one.sized (grind (arith, common_steps)) in
    let more = all_back first size spelled good limit back some items most (at + length (spelled item)) parts.1 (omega (arith, sizes, enough, here)) (omega (arith, sizes, fits)) in
    in_turn-some first size most at (spelled item ++ rest) (omega (arith, sizes, here))
    ∙ ap (λ x. before at x (in_turn first size most (at + size (spelled item ++ rest)) (drop (size (spelled item ++ rest)) (spelled item ++ rest)))) one.found
    ∙ ap (λ os. before at (Some item) (in_turn first size most (at + size (spelled item ++ rest)) os)) left
    ∙ ap (λ n. before at (Some item) (in_turn first size most (at + n) rest)) one.sized
    ∙ ap (before at (Some item)) more
