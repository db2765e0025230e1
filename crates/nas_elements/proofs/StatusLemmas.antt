-- Bits and the octets that they make.
use Rattle.std.proofs.Common.{◌≡◌, ◌<◌, ◌≤◌, ◌+◌, ◌-◌, ◌*◌, ◌/◌, ◌%◌, ◌^◌, ◌==◌, ◌&&◌, ℕ, zero, suc, Bool, true, false, List, [], ◌∷◌, ◌++◌, length, take, drop, get_or, drop-cons, Some, is_some, arith, refl, ap, subst, ◌∙◌}
use Rattle.std.proofs.Math.ListN.{replicate, set}
use Rattle.std.proofs.lemmas.Bool.Decides.{nat_tests}
use Rattle.std.proofs.lemmas.Grind.{common_steps}
use Rattle.std.proofs.lemmas.List.{length-replicate}
use Rattle.std.proofs.lemmas.Nat.{pow_pos}
use Rattle.nas_elements.proofs.Sized.{starts_whole}
use Rattle.nas_elements.specs.Reads.{IsWrongAt}
use Rattle.nas_elements.specs.Status.{bits, both, number, status_in, status_octets}

-- so many bits make a number below that power of two
number_limit : (count : ℕ) (held : List Bool) → length held ≤ count → number held < 2 ^ count
number_limit count [] h = pow_pos count
number_limit zero (bit ∷ held) h = grind (arith)
number_limit (suc count) (true ∷ held) h = grind (arith, common_steps, number_limit count held)
number_limit (suc count) (false ∷ held) h = grind (arith, common_steps, number_limit count held)

pub seven_bits : (held : List Bool) → length held ≤ 7 → number held < 128
seven_bits held h = number_limit 7 held h

-- the bits of the number that bits make are these
bits_of_number : (held : List Bool) → bits (length held) (number held) ≡ held
bits_of_number [] = refl
bits_of_number (true ∷ held) = grind (arith, nat_tests, bits_of_number held)
bits_of_number (false ∷ held) = grind (arith, nat_tests, bits_of_number held)

bits_of : (count : ℕ) (held : List Bool) → length held ≡ count → bits count (number held) ≡ held
bits_of count held h = let P : ℕ → Type 0 = λ n. bits n (number held) ≡ held in subst P h (bits_of_number held)

-- two octets or more have a value
status_of_two : (octets : List ℕ) → 2 ≤ length octets → is_some (status_in octets) ≡ true
status_of_two [] h = grind (arith)
status_of_two (first ∷ []) h = grind (arith)
status_of_two (first ∷ second ∷ rest) h = refl

pub wrong_status : (octets : List ℕ) → length octets < 2 → IsWrongAt status_in octets (length octets)
wrong_status octets short = record {
  within = omega arith;
  before = starts_whole status_in (take (length octets) octets) (replicate 2 0)
      (status_of_two (take (length octets) octets ++ replicate 2 0) (grind (arith, common_steps, length-replicate)));
  here = λ more starts. omega arith;
}

pub status_read_back : (held : List Bool) → length held ≡ 15 → status_in (status_octets held) ≡ Some held
status_read_back held h =
    let halved : 2 * number (take 7 held) / 2 ≡ number (take 7 held) = omega arith in
    let first : bits 7 (number (take 7 held)) ≡ take 7 held = bits_of 7 (take 7 held) (grind (arith, common_steps)) in
    let second : bits 8 (number (drop 7 held)) ≡ drop 7 held = bits_of 8 (drop 7 held) (grind (arith, common_steps)) in
    ap (λ n. Some (bits 7 n ++ bits 8 (number (drop 7 held)))) halved
    ∙ ap (λ bs. Some (bs ++ bits 8 (number (drop 7 held)))) first
    ∙ ap (λ bs. Some (take 7 held ++ bs)) second
    ∙ grind (arith, common_steps)

pub unpack_step : (places : List Bool) (i left octet : ℕ) → i < length places
    → take i places ++ bits (length places - i) left ≡ bits (length places) octet
    → take (i + 1) (set places i (left % 2 == 1)) ++ bits (length (set places i (left % 2 == 1)) - (i + 1)) (left / 2)
    ≡ bits (length (set places i (left % 2 == 1))) octet
unpack_step places i left octet more told =
    let e : length places - i ≡ suc (length places - (i + 1)) = omega arith in
    let next : bits (length places - i) left ≡ (left % 2 == 1) ∷ bits (length places - (i + 1)) (left / 2) = ap (λ n. bits n left) e in
    grind (arith, common_steps, next, told)

pub both_step : (places one other : List Bool) (i : ℕ) → i < length places → i < length one → i < length other
    → take i places ++ both (drop i one) (drop i other) ≡ both one other
    → take (i + 1) (set places i (get_or one i false && get_or other i false)) ++ both (drop (i + 1) one) (drop (i + 1) other) ≡ both one other
both_step places one other i more first second told =
    let next : both (drop i one) (drop i other) ≡ (get_or one i false && get_or other i false) ∷ both (drop (suc i) one) (drop (suc i) other) =
    ap (λ xs. both xs (drop i other)) (drop-cons one i false first) ∙ ap (λ ys. both (get_or one i false ∷ drop (suc i) one) ys) (drop-cons other i false second) in
    grind (arith, common_steps, next, told)
