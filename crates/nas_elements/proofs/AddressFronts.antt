-- PDU addresses: where octets stop being the front of one, and what is written is read back.
use Rattle.std.proofs.Common.{◌≡◌, ◌∙◌, ◌<◌, ◌+◌, ◌-◌, ◌%◌, ◌==◌, ℕ, zero, suc, true, List, [], ◌∷◌, ◌++◌, length, take, drop, min, Some, is_some, ap, arith, refl}
use Rattle.std.proofs.Math.ListN.{replicate}
use Rattle.std.proofs.lemmas.Bool.Decides.{nat_tests}
use Rattle.std.proofs.lemmas.Grind.{common_steps}
use Rattle.std.proofs.lemmas.List.{length-replicate}
use Rattle.nas_elements.specs.Address.{address_front, address_in, address_octets, kind_in, size_of_kind}
use Rattle.nas_elements.specs.Reads.{IsWrongAt, StartsAValue}
use Rattle.nas_elements.specs.declared.address.Address.TheVariants.{V4, V6, V4V6}
use Rattle.nas_elements.proofs.GrammarFronts.{wrong_front}
use Rattle.nas_elements.proofs.Sized.{starts_whole}

cut : (n : ℕ) (os : List ℕ) → address_front (take n os) ≡ min n (address_front os)
cut zero os = omega arith
cut (suc n) [] = omega arith
cut (suc n) (first ∷ os) = grind (arith, common_steps)

-- of a kind there are exactly as many octets as it has
of_kind : (kind : ℕ) (octets : List ℕ) → is_some (kind_in kind octets) ≡ true → length octets + 1 ≡ size_of_kind kind
of_kind kind octets some = grind (arith, nat_tests)

sound : (os : List ℕ) → is_some (address_in os) ≡ true → address_front os ≡ length os
sound [] some = cc
sound (first ∷ os) some = omega (arith, of_kind (first % 8) os some)

full : (kind : ℕ) (octets : List ℕ) → 0 < size_of_kind kind → length octets + 1 ≡ size_of_kind kind → is_some (kind_in kind octets) ≡ true
full kind octets known size = grind (arith, nat_tests)

complete : (os : List ℕ) → address_front os ≡ length os → StartsAValue address_in os
complete [] all = starts_whole address_in [] (1 ∷ 0 ∷ 0 ∷ 0 ∷ 0 ∷ []) refl
complete (first ∷ os) all =
    let size : ℕ = size_of_kind (first % 8) in
    starts_whole address_in (first ∷ os) (replicate (size - length (first ∷ os)) 0)
    (full (first % 8) (os ++ replicate (size - length (first ∷ os)) 0) (omega (arith, all)) (grind (arith, common_steps, length-replicate)))

pub wrong_address : (octets : List ℕ) → IsWrongAt address_in octets (address_front octets)
wrong_address octets = wrong_front address_in address_front cut sound complete octets

taken : (n : ℕ) (xs ys : List ℕ) → length xs ≡ n → take n (xs ++ ys) ≡ xs
taken n xs ys size = grind (arith, common_steps)

left : (n : ℕ) (xs ys : List ℕ) → length xs ≡ n → drop n (xs ++ ys) ≡ ys
left n xs ys size = grind (arith, common_steps)

pub v4_back : (v4 : List ℕ) → length v4 ≡ 4 → address_in (address_octets (V4 v4)) ≡ Some (V4 v4)
v4_back v4 size = grind (arith, nat_tests)

pub v6_back : (v6 : List ℕ) → length v6 ≡ 8 → address_in (address_octets (V6 v6)) ≡ Some (V6 v6)
v6_back v6 size = grind (arith, nat_tests)

pub v4v6_back : (v6 v4 : List ℕ) → length v6 ≡ 8 → length v4 ≡ 4 → address_in (address_octets (V4V6 v6 v4)) ≡ Some (V4V6 v6 v4)
v4v6_back v6 v4 eight four =
    let long : length (v6 ++ v4) ≡ 12 = grind (arith, common_steps) in
    let test : (length (v6 ++ v4) == 12) ≡ true = grind (arith, nat_tests) in
    rw test (
    ap (λ (xs : List ℕ). Some (V4V6 xs (drop 8 (v6 ++ v4)))) (taken 8 v6 v4 eight)
    ∙ ap (λ (xs : List ℕ). Some (V4V6 v6 xs)) (left 8 v6 v4 eight))
