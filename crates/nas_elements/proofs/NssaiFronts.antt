-- Where octets stop being the front of a list of slices.
use Rattle.std.proofs.Common.{◌≡◌, ◌≤◌, ◌+◌, ◌-◌, ℕ, zero, suc, Bool, true, false, List, [], ◌∷◌, ◌++◌, length, take, drop, length-drop, sym, ◌∙◌, min, nat_lt, nat_le, Option, Some, None, is_some, cond, ap, arith, refl}
use Rattle.std.proofs.Math.ListN.{replicate}
use Rattle.std.proofs.lemmas.Bool.Decides.{nat_tests}
use Rattle.std.proofs.lemmas.Grind.{common_steps}
use Rattle.std.proofs.lemmas.List.{length-replicate}
use Rattle.nas_elements.specs.Nssai.{before, first_in, nssai_in, slices_front, slices_in, starts_slice}
use Rattle.nas_elements.specs.Reads.{IsWrongAt, StartsAValue}
use Rattle.nas_elements.specs.Slice.{is_slice_size, slice_in}
use Rattle.nas_elements.specs.declared.slice.Slice.{Slice}
use Rattle.nas_elements.proofs.GrammarFronts.{counts_on, wrong_front}
use Rattle.nas_elements.proofs.Sized.{starts_whole}

pub slices_front-take : (n most owed : ℕ) (os : List ℕ) → slices_front most owed (take n os) ≡ min n (slices_front most owed os)
slices_front-take zero most owed os = omega arith
slices_front-take (suc n) most owed [] = omega arith
slices_front-take (suc n) most zero (size ∷ os) =
    counts_on (starts_slice most size) n (slices_front (most - 1) size (take n os)) (slices_front (most - 1) size os) (slices_front-take n (most - 1) size os)
slices_front-take (suc n) most (suc owed) (o ∷ os) = omega (arith, slices_front-take n most owed os)

-- what is owed is there, and behind it all starts anew
pub front_whole : (most owed : ℕ) (os : List ℕ) → owed ≤ length os → slices_front most owed os ≡ owed + slices_front most 0 (drop owed os)
front_whole most zero os there = omega arith
front_whole most (suc owed) [] there = absurd (omega arith)
front_whole most (suc owed) (o ∷ os) there = omega (arith, front_whole most owed os (omega arith))

-- less than what is owed is there
pub front_cut : (most owed : ℕ) (os : List ℕ) → length os ≤ owed → slices_front most owed os ≡ length os
front_cut most owed [] cut = refl
front_cut most zero (o ∷ os) cut = absurd (omega arith)
front_cut most (suc owed) (o ∷ os) cut = omega (arith, front_cut most owed os (omega arith))

-- a slice of so many octets is there
pub slice_there : (octets : List ℕ) → is_some (slice_in octets) ≡ is_slice_size (length octets)
slice_there octets = grind (arith, nat_tests)

both : (slice : Option Slice) (slices : Option (List Slice)) → is_some (before slice slices) ≡ true → (is_some slice ≡ true) × (is_some slices ≡ true)
both None slices some = (some, cc)
both (Some slice) None some = cc
both (Some slice) (Some slices) some = (refl, refl)

pub first_there : (size : ℕ) (os : List ℕ) → is_some (first_in (size ∷ os)) ≡ true → (size ≤ length os) × (is_slice_size size ≡ true)
first_there size os some = go (nat_le size (length os)) refl some where
  go : (b : Bool) → nat_le size (length os) ≡ b → is_some (cond b (slice_in (take size os)) None) ≡ true → (size ≤ length os) × (is_slice_size size ≡ true)
  go true le h =
      let there : size ≤ length os = grind (arith, nat_tests) in
      let taken : length (take size os) ≡ size = grind (arith, common_steps) in
      (there, ap (λ n. is_slice_size n) (sym taken) ∙ (sym (slice_there (take size os)) ∙ h))
  go false le h = cc

-- a slice is there
pub front_slice : (most size : ℕ) (os : List ℕ) → is_slice_size size ≡ true → size ≤ length os
    → slices_front (suc most) 0 (size ∷ os) ≡ 1 + size + slices_front most 0 (drop size os)
front_slice most size os right there =
    let less : suc most - 1 ≡ most = omega arith in
    rw (right, less, front_whole most size os there) (grind (arith, nat_tests))

slices-front : (most : ℕ) (os : List ℕ) → is_some (slices_in most os) ≡ true → slices_front most 0 os ≡ length os
slices-front most [] some = refl
slices-front zero (size ∷ os) some = cc
slices-front (suc most) (size ∷ os) some =
    let parts : (is_some (first_in (size ∷ os)) ≡ true) × (is_some (slices_in most (drop size os)) ≡ true) = both (first_in (size ∷ os)) (slices_in most (drop size os)) some in
    let first : (size ≤ length os) × (is_slice_size size ≡ true) = first_there size os parts.0 in
    omega (arith, front_slice most size os first.1 first.0, slices-front most (drop size os) parts.1, length-drop {A = ℕ} size os, first.0)

-- a slice that is there, and slices behind it
there : (most size : ℕ) (os : List ℕ) → is_slice_size size ≡ true → size ≤ length os → is_some (slices_in most (drop size os)) ≡ true
    → is_some (slices_in (suc most) (size ∷ os)) ≡ true
there most size os right fits some =
    let taken : length (take size os) ≡ size = grind (arith, common_steps) in
    let slice : is_some (slice_in (take size os)) ≡ true = slice_there (take size os) ∙ (ap (λ n. is_slice_size n) taken ∙ right) in
    let test : nat_le size (length os) ≡ true = grind (arith, nat_tests) in
    let first : is_some (first_in (size ∷ os)) ≡ true = rw test slice in
    go (first_in (size ∷ os)) (slices_in most (drop size os)) first some where
      go : (x : Option Slice) (xs : Option (List Slice)) → is_some x ≡ true → is_some xs ≡ true → is_some (before x xs) ≡ true
      go None xs p q = cc
      go (Some x) None p q = cc
      go (Some x) (Some xs) p q = refl

nothing_left : (most : ℕ) (os : List ℕ) → os ≡ [] → is_some (slices_in most os) ≡ true
nothing_left zero os e = rw e refl
nothing_left (suc most) os e = rw e refl

-- octets that are all counted, some behind which make them slices
slices-rest : (most : ℕ) (os : List ℕ) → slices_front most 0 os ≡ length os → (rest : List ℕ) × (is_some (slices_in most (os ++ rest)) ≡ true)
slices-rest most [] h = ([], nothing_left most [] refl)
slices-rest zero (size ∷ os) h = absurd (grind (arith, nat_tests, h))
slices-rest (suc most) (size ∷ os) h = go (is_slice_size size) (nat_le size (length os)) refl refl (λ left. slices-rest most (drop size os) left) where
  go : (b c : Bool) → is_slice_size size ≡ b → nat_le size (length os) ≡ c
      → (slices_front most 0 (drop size os) ≡ length (drop size os) → (rest : List ℕ) × (is_some (slices_in most (drop size os ++ rest)) ≡ true))
      → (rest : List ℕ) × (is_some (slices_in (suc most) (size ∷ os ++ rest)) ≡ true)
  go false c right fits more = absurd (grind (arith, nat_tests, h, right))
  go true false right fits more =
      let rest : List ℕ = replicate (size - length os) 0 in
      let cut : length os ≤ size = grind (arith, nat_tests) in
      let full : length (os ++ rest) ≡ size = grind (arith, common_steps, length-replicate) in
      (rest, there most size (os ++ rest) right (omega arith) (nothing_left most (drop size (os ++ rest)) (grind (arith, common_steps))))
  go true true right fits more =
      let whole : size ≤ length os = grind (arith, nat_tests) in
      let left : slices_front most 0 (drop size os) ≡ length (drop size os) = omega (arith, h, front_slice most size os right whole, length-drop {A = ℕ} size os) in
      let behind : (rest : List ℕ) × (is_some (slices_in most (drop size os ++ rest)) ≡ true) = more left in
      let same : drop size (os ++ behind.0) ≡ drop size os ++ behind.0 = grind (arith, common_steps) in
      (behind.0, there most size (os ++ behind.0) right (grind (arith, common_steps)) (rw same behind.1))

pub nssai-some : (size : ℕ) (os : List ℕ) → nssai_in (size ∷ os) ≡ slices_in 8 (size ∷ os)
nssai-some size os =
    let some : nat_lt 0 (length (size ∷ os)) ≡ true = grind (arith, nat_tests) in
    rw some refl

nssai-front : (os : List ℕ) → is_some (nssai_in os) ≡ true → slices_front 8 0 os ≡ length os
nssai-front [] some = refl
nssai-front (size ∷ os) some = slices-front 8 (size ∷ os) (ap is_some (sym (nssai-some size os)) ∙ some)

nssai-starts : (os : List ℕ) → slices_front 8 0 os ≡ length os → StartsAValue nssai_in os
nssai-starts [] h = starts_whole nssai_in [] (1 ∷ 0 ∷ []) refl
nssai-starts (size ∷ os) h =
    let rest : (rest : List ℕ) × (is_some (slices_in 8 (size ∷ os ++ rest)) ≡ true) = slices-rest 8 (size ∷ os) h in
    starts_whole nssai_in (size ∷ os) rest.0 (ap is_some (nssai-some size (os ++ rest.0)) ∙ rest.1)

pub wrong_nssai : (octets : List ℕ) → IsWrongAt nssai_in octets (slices_front 8 0 octets)
wrong_nssai = wrong_front nssai_in (slices_front 8 0) (λ n os. slices_front-take n 8 0 os) nssai-front nssai-starts
