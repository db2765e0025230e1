-- Digits in the halves of octets: that they fit, and how many there are.
use Rattle.std.proofs.Common.{◌≡◌, ℕ, zero, suc, ◌+◌, ◌*◌, ◌<◌, ◌≤◌, true, List, [], ◌∷◌, length, slice_index, None, arith, refl}
use Rattle.std.proofs.lemmas.Bool.Decides.{nat_tests}
use Rattle.std.proofs.lemmas.Grind.{common_steps}
use Rattle.nas_base.specs.Digits.{all_digits, are_digits}
use Rattle.nas_elements.specs.Packed.{halves_of, packed, two_halves, unfilled}
use Rattle.nas_elements.specs.Suci.{is_suci, msin_in}

digit_at : (ds : List ℕ) (i : ℕ) → all_digits ds ≡ true → slice_index ds i < 10
digit_at [] i h = omega arith
digit_at (d ∷ ds) zero h = grind (arith, nat_tests, h)
digit_at (d ∷ ds) (suc i) h = digit_at ds i (grind (arith, h))

-- a digit, and what stands in the high half above it: a digit or the filler
pub half_fits : (ds : List ℕ) (i high : ℕ) → all_digits ds ≡ true → high < 16 → two_halves (slice_index ds i) high < 256
half_fits ds i high h few = let low = digit_at ds i h in omega arith

pub halves_fit : (ds : List ℕ) (i j : ℕ) → all_digits ds ≡ true → two_halves (slice_index ds i) (slice_index ds j) < 256
halves_fit ds i j h = let high = digit_at ds j h in half_fits ds i (slice_index ds j) h (omega arith)

pub digits_fit : (ds : List ℕ) (i j : ℕ) → are_digits 1 15 ds ≡ true → two_halves (slice_index ds i) (slice_index ds j) < 256
digits_fit ds i j h = halves_fit ds i j (grind (arith, h))

pub few_digits : (routing msin : List ℕ) → is_suci routing msin ≡ true → (length routing ≤ 4) × (length msin ≤ 10)
few_digits routing msin h = (grind (arith, nat_tests, h), grind (arith, nat_tests, h))

-- some digits need some octets
pub packed_some : (ds : List ℕ) → 1 ≤ length ds → 1 ≤ length (packed ds)
packed_some [] h = h
packed_some (a ∷ []) h = h
packed_some (a ∷ b ∷ ds) h = omega arith

pub length-halves_of : (octets : List ℕ) → length (halves_of octets) ≡ 2 * length octets
length-halves_of [] = refl
length-halves_of (o ∷ os) = omega (arith, length-halves_of os)

pub length-unfilled : (hs : List ℕ) → length hs ≤ length (unfilled hs) + 1
length-unfilled hs = grind (arith, nat_tests, common_steps)

-- more than 5 octets hold more digits than an MSIN has
pub msin_of_many : (octets : List ℕ) → 5 < length octets → msin_in octets ≡ None
msin_of_many octets many = grind (arith, nat_tests, length-unfilled (halves_of octets), length-halves_of octets)
