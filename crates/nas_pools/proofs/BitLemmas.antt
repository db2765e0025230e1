-- Numbers as bits of words: what a bit that is written changes, and where the first bit that is 0 stands.
use Rattle.std.proofs.Common.{◌≡◌, ◌≢◌, ◌<◌, ◌≤◌, ◌+◌, ◌-◌, ◌*◌, ◌/◌, ◌%◌, ◌^◌, ℕ, Bool, true, false, List, length, arith, refl, ap, ◌∙◌}
use Rattle.std.specs.Prelude.{nat_lt, ◌==◌, Some, None, slice_index, bit_or, bit_and}
use Rattle.std.specs.Int.{w64, bit_at, bit_not, trailing_ones}
use Rattle.std.proofs.lemmas.Bool.{ne_eqb, eqb-false}
use Rattle.std.proofs.lemmas.Bool.Decides.{nat_tests}
use Rattle.std.proofs.lemmas.List.{get_or-set_other, get_or-set_same}
use Rattle.std.proofs.Math.ListN.{length-set}
use Rattle.std.proofs.lemmas.Nat.{le_or_l, or_lt}
use Rattle.std.proofs.lemmas.Nat.Bits.{bit_at-trailing_ones, bit_at_clear_other, bit_at_clear_same, bit_at_ones, bit_at_set_other, bit_at_set_same}
use Rattle.nas_pools.specs.Bits.{cleared, is_full, is_marked, marked}
use Rattle.nas_pools.specs.Numbers.{first_failing}
use Rattle.nas_pools.proofs.FailingLemmas.{Changed, failing_found, failing_none}

-- two numbers of one word differ by their bits
bits_apart : (m n : ℕ) → m ≢ n → m / 64 ≡ n / 64 → m % 64 ≢ n % 64
bits_apart m n apart e f = apart (omega arith)

within : (n : ℕ) → n % 64 < 64
within n = omega arith

-- a word other than the number's
pub marked_other : (n w : ℕ) (words : List ℕ) → w ≢ n / 64 → slice_index (marked n words) w ≡ slice_index words w
unfolding marked
marked_other n w words h = get_or-set_other words (n / 64) w (bit_or (slice_index words (n / 64)) (1 * 2 ^ (n % 64) % 2 ^ 64)) 0 h

pub cleared_other : (n w : ℕ) (words : List ℕ) → w ≢ n / 64 → slice_index (cleared n words) w ≡ slice_index words w
unfolding cleared
cleared_other n w words h = get_or-set_other words (n / 64) w (bit_and (slice_index words (n / 64)) (bit_not w64 (1 * 2 ^ (n % 64) % 2 ^ 64))) 0 h

-- the number's own
marked_word : (n : ℕ) (words : List ℕ) → n / 64 < length words →
    slice_index (marked n words) (n / 64) ≡ bit_or (slice_index words (n / 64)) (1 * 2 ^ (n % 64) % 2 ^ 64)
unfolding marked
marked_word n words h = get_or-set_same words (n / 64) (bit_or (slice_index words (n / 64)) (1 * 2 ^ (n % 64) % 2 ^ 64)) 0 h

cleared_word : (n : ℕ) (words : List ℕ) → n / 64 < length words →
    slice_index (cleared n words) (n / 64) ≡ bit_and (slice_index words (n / 64)) (bit_not w64 (1 * 2 ^ (n % 64) % 2 ^ 64))
unfolding cleared
cleared_word n words h = get_or-set_same words (n / 64) (bit_and (slice_index words (n / 64)) (bit_not w64 (1 * 2 ^ (n % 64) % 2 ^ 64))) 0 h

pub length-marked : (n : ℕ) (words : List ℕ) → length (marked n words) ≡ length words
unfolding marked
length-marked n words = length-set words (n / 64) (bit_or (slice_index words (n / 64)) (1 * 2 ^ (n % 64) % 2 ^ 64))

pub length-cleared : (n : ℕ) (words : List ℕ) → length (cleared n words) ≡ length words
unfolding cleared
length-cleared n words = length-set words (n / 64) (bit_and (slice_index words (n / 64)) (bit_not w64 (1 * 2 ^ (n % 64) % 2 ^ 64)))

-- the bit of a number that is written, and those of the others
marked_there : (n : ℕ) (words : List ℕ) → n / 64 < length words → is_marked (marked n words) n ≡ true
marked_there n words h = rw (marked_word n words h, bit_at_set_same w64 (slice_index words (n / 64)) (n % 64) (within n)) refl

cleared_there : (n : ℕ) (words : List ℕ) → n / 64 < length words → is_marked (cleared n words) n ≡ false
cleared_there n words h = rw (cleared_word n words h, bit_at_clear_same w64 (slice_index words (n / 64)) (n % 64) (within n)) refl

-- in the same word
marked_beside : (m n : ℕ) (words : List ℕ) → n / 64 < length words → m ≢ n → m / 64 ≡ n / 64 → is_marked (marked n words) m ≡ is_marked words m
marked_beside m n words h apart same =
    rw (same, marked_word n words h, bit_at_set_other w64 (slice_index words (n / 64)) (n % 64) (within n) (m % 64) (bits_apart m n apart same)) refl

cleared_beside : (m n : ℕ) (words : List ℕ) → n / 64 < length words → m ≢ n → m / 64 ≡ n / 64 → is_marked (cleared n words) m ≡ is_marked words m
cleared_beside m n words h apart same =
    rw (same, cleared_word n words h, bit_at_clear_other w64 (slice_index words (n / 64)) (n % 64) (within n) (m % 64) (within m) (bits_apart m n apart same)) refl

marked_elsewhere : (m n : ℕ) (words : List ℕ) (b : Bool) → (m / 64 == n / 64) ≡ b → n / 64 < length words → m ≢ n → is_marked (marked n words) m ≡ is_marked words m
marked_elsewhere m n words true is h apart = let same : m / 64 ≡ n / 64 = grind (arith, nat_tests) in marked_beside m n words h apart same
marked_elsewhere m n words false is h apart = rw (marked_other n (m / 64) words (eqb-false (m / 64) (n / 64) is)) refl

cleared_elsewhere : (m n : ℕ) (words : List ℕ) (b : Bool) → (m / 64 == n / 64) ≡ b → n / 64 < length words → m ≢ n → is_marked (cleared n words) m ≡ is_marked words m
cleared_elsewhere m n words true is h apart = let same : m / 64 ≡ n / 64 = grind (arith, nat_tests) in cleared_beside m n words h apart same
cleared_elsewhere m n words false is h apart = rw (cleared_other n (m / 64) words (eqb-false (m / 64) (n / 64) is)) refl

pub marked_changed : (n : ℕ) (words : List ℕ) → n / 64 < length words → Changed (is_marked words) (is_marked (marked n words)) n true
marked_changed n words h = record {
  there = marked_there n words h;
  others = λ m apart. marked_elsewhere m n words (m / 64 == n / 64) refl h apart;
}

pub cleared_changed : (n : ℕ) (words : List ℕ) → n / 64 < length words → Changed (is_marked words) (is_marked (cleared n words)) n false
cleared_changed n words h = record {
  there = cleared_there n words h;
  others = λ m apart. cleared_elsewhere m n words (m / 64 == n / 64) refl h apart;
}

-- A full word has a 1 at each bit; one that is full stays so when a bit becomes 1, and is full no longer when one becomes 0.
full_marked : (words : List ℕ) (n : ℕ) → slice_index words (n / 64) ≡ 2 ^ 64 - 1 → is_marked words n ≡ true
full_marked words n e = rw (e, bit_at_ones 64 (n % 64) (within n)) refl

pub full_stays : (n : ℕ) (words : List ℕ) → n / 64 < length words → slice_index words (n / 64) ≡ 2 ^ 64 - 1 → slice_index (marked n words) (n / 64) ≡ 2 ^ 64 - 1
full_stays n words h e =
    let bit : ℕ = 1 * 2 ^ (n % 64) % 2 ^ 64 in
    let above : slice_index words (n / 64) ≤ bit_or (slice_index words (n / 64)) bit = le_or_l (slice_index words (n / 64)) bit in
    let below : bit_or (slice_index words (n / 64)) bit < 2 ^ 64 = or_lt 64 (slice_index words (n / 64)) bit (omega arith) (omega arith) in
    marked_word n words h ∙ (omega arith)

pub cleared_not_full : (n : ℕ) (words : List ℕ) → n / 64 < length words → is_full (slice_index (cleared n words) (n / 64)) ≡ false
cleared_not_full n words h =
    ne_eqb (slice_index (cleared n words) (n / 64)) (2 ^ 64 - 1)
    (λ e. let one : is_marked (cleared n words) n ≡ true = full_marked (cleared n words) n e in
    let zero_bit : is_marked (cleared n words) n ≡ false = cleared_there n words h in cc)

-- all numbers below this one have their bits 1
pub record AllMarked (words : List ℕ) (end : ℕ) : Type 0 where
  pub at : (m : ℕ) → m < end → is_marked words m ≡ true

pub none_marked : (words : List ℕ) → AllMarked words 0
none_marked words = record { at = λ m h. absurd (omega arith) }

all_marked_next_by : (words : List ℕ) (w m : ℕ) (b : Bool) → nat_lt m (64 * w) ≡ b → AllMarked words (64 * w) → slice_index words w ≡ 2 ^ 64 - 1 → m < 64 * (w + 1) →
    is_marked words m ≡ true
all_marked_next_by words w m true is h e below = h.at m (grind (arith, nat_tests))
all_marked_next_by words w m false is h e below =
    let from : 64 * w ≤ m = grind (arith, nat_tests) in let there : m / 64 ≡ w = omega arith in full_marked words m (ap (slice_index words) there ∙ e)

-- behind a full word
pub all_marked_next : (words : List ℕ) (w : ℕ) → AllMarked words (64 * w) → slice_index words w ≡ 2 ^ 64 - 1 → AllMarked words (64 * (w + 1))
all_marked_next words w h e = record { at = λ m below. all_marked_next_by words w m (nat_lt m (64 * w)) refl h e below }

-- In a word that isn't full the lowest 0 stands behind its lowest 1s.
first_zero_by : (words : List ℕ) (w m : ℕ) (b : Bool) → nat_lt m (64 * w) ≡ b → AllMarked words (64 * w) →
    ((i : ℕ) → i < trailing_ones w64 (slice_index words w) → bit_at (slice_index words w) i ≡ 1) → trailing_ones w64 (slice_index words w) < 64 →
    m < 64 * w + trailing_ones w64 (slice_index words w) → is_marked words m ≡ true
first_zero_by words w m true is h ones fits below = h.at m (grind (arith, nat_tests))
first_zero_by words w m false is h ones fits below =
    let from : 64 * w ≤ m = grind (arith, nat_tests) in
    let there : m / 64 ≡ w = omega arith in
    let bit : m % 64 < trailing_ones w64 (slice_index words w) = omega arith in
    rw (there, ones (m % 64) bit) refl

pub record FirstZero (words : List ℕ) (n : ℕ) : Type 0 where
  pub clear : is_marked words n ≡ false
  pub before : AllMarked words n

pub first_zero : (words : List ℕ) (w : ℕ) → AllMarked words (64 * w) → slice_index words w < 2 ^ 64 - 1 →
    FirstZero words (64 * w + trailing_ones w64 (slice_index words w)) × (trailing_ones w64 (slice_index words w) < 64)
first_zero words w h not_full =
    let lowest : _ = bit_at-trailing_ones w64 (slice_index words w) (omega arith) in
    let fits : trailing_ones w64 (slice_index words w) < 64 = lowest.0 in
    let word : (64 * w + trailing_ones w64 (slice_index words w)) / 64 ≡ w = omega arith in
    let bit : (64 * w + trailing_ones w64 (slice_index words w)) % 64 ≡ trailing_ones w64 (slice_index words w) = omega arith in (
      record {
        clear = rw (word, bit, lowest.1) refl;
        before = record { at = λ m below. first_zero_by words w m (nat_lt m (64 * w)) refl h lowest.2 fits below };
      },
      fits,
    )

-- the lowest 0 of the first word that isn't full is the first of all
pub first_clear_at : (words : List ℕ) (w : ℕ) → AllMarked words (64 * w) → slice_index words w < 2 ^ 64 - 1 → w < length words →
    first_failing (is_marked words) 0 (64 * length words) ≡ Some (64 * w + trailing_ones w64 (slice_index words w))
first_clear_at words w h not_full there =
    let first : _ = first_zero words w h not_full in
    let fits : trailing_ones w64 (slice_index words w) < 64 = first.1 in
    let clear = first.0.clear in
    let before = first.0.before.at in
    failing_found (is_marked words) 0 (64 * length words) (64 * w + trailing_ones w64 (slice_index words w)) (omega arith) (omega arith) clear (λ m above below. before m below)

pub no_clear : (words : List ℕ) → AllMarked words (64 * length words) → first_failing (is_marked words) 0 (64 * length words) ≡ None
no_clear words h = failing_none (is_marked words) 0 (64 * length words) (λ m above below. h.at m (omega arith))
