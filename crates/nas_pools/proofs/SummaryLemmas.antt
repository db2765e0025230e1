-- The bits of words that are full say where the first bit that is 0 stands.
use Rattle.std.proofs.Common.{◌≡◌, ◌≢◌, ◌<◌, ◌≤◌, ◌+◌, ◌-◌, ◌*◌, ◌/◌, ◌^◌, ℕ, zero, suc, Bool, true, false, List, length, arith, refl, ap, sym, subst, ◌∙◌}
use Rattle.std.specs.Prelude.{◌==◌, Some, None, slice_index}
use Rattle.std.specs.Int.{w64, trailing_ones}
use Rattle.std.proofs.lemmas.Bool.{eq-eqb, ne_eqb, eqb-false}
use Rattle.std.proofs.lemmas.Bool.Decides.{nat_tests}
use Rattle.nas_pools.specs.Bits.{AreBits, cleared, is_full, is_marked, marked}
use Rattle.nas_pools.specs.Numbers.{first_failing}
use Rattle.nas_pools.proofs.BitLemmas.{AllMarked, all_marked_next, cleared_not_full, cleared_other, first_zero, full_stays, length-cleared, length-marked, marked_other, marked_changed, cleared_changed, none_marked}
use Rattle.nas_pools.proofs.FailingLemmas.{FoundAt, all_pass_from, failing_found, failing_none, found_from}

full_word : (words : List ℕ) (w : ℕ) → is_full (slice_index words w) ≡ true → slice_index words w ≡ 2 ^ 64 - 1
full_word words w h = grind (arith, nat_tests)

-- so many words that are full
pub words_full : (size w : ℕ) (words full : List ℕ) → AreBits size words full → w ≤ length words → ((m : ℕ) → m < w → is_marked full m ≡ true) → AllMarked words (64 * w)
words_full size zero words full b h ones = none_marked words
words_full size (suc w) words full b h ones =
    let word : slice_index words w ≡ 2 ^ 64 - 1 = full_word words w (sym (b.summary w (omega arith)) ∙ ones w (omega arith)) in
    subst (λ (n : ℕ). AllMarked words (64 * n)) (omega arith)
    (all_marked_next words w (words_full size w words full b (omega arith) (λ m below. ones m (omega arith))) word)

none_below : (size : ℕ) (words : List ℕ) → AllMarked words (64 * length words) → size ≤ 64 * length words → first_failing (is_marked words) 0 size ≡ None
none_below size words h room = failing_none (is_marked words) 0 size (λ m above below. h.at m (omega arith))

-- no word has a bit that is 0
pub no_word : (size : ℕ) (words full : List ℕ) → AreBits size words full → first_failing (is_marked full) 0 (64 * length full) ≡ None →
    first_failing (is_marked words) 0 size ≡ None
no_word size words full b none =
    let room : length words ≤ 64 * length full = b.full_room in
    none_below size words
    (words_full size (length words) words full b (omega arith) (λ m below. all_pass_from (is_marked full) 0 (64 * length full) none m (omega arith) (omega arith)))
    b.words_room

pub past_words : (size w : ℕ) (words full : List ℕ) → AreBits size words full → first_failing (is_marked full) 0 (64 * length full) ≡ Some w → length words ≤ w →
    first_failing (is_marked words) 0 size ≡ None
past_words size w words full b found past =
    let at : FoundAt (is_marked full) 0 (64 * length full) w = found_from (is_marked full) 0 (64 * length full) w found in
    none_below size words (words_full size (length words) words full b (omega arith) (λ m below. at.before m (omega arith) (omega arith))) b.words_room

-- the word that is the first to have one
pub word_not_full : (size w : ℕ) (words full : List ℕ) → AreBits size words full → first_failing (is_marked full) 0 (64 * length full) ≡ Some w → w < length words →
    slice_index words w < 2 ^ 64 → slice_index words w < 2 ^ 64 - 1
word_not_full size w words full b found there fits =
    let at : FoundAt (is_marked full) 0 (64 * length full) w = found_from (is_marked full) 0 (64 * length full) w found in
    let not_full : is_full (slice_index words w) ≡ false = sym (b.summary w there) ∙ at.fails in
    let apart : slice_index words w ≢ 2 ^ 64 - 1 = eqb-false (slice_index words w) (2 ^ 64 - 1) not_full in omega arith

words_before : (size w : ℕ) (words full : List ℕ) → AreBits size words full → first_failing (is_marked full) 0 (64 * length full) ≡ Some w → w < length words →
    AllMarked words (64 * w)
words_before size w words full b found there =
    let at : FoundAt (is_marked full) 0 (64 * length full) w = found_from (is_marked full) 0 (64 * length full) w found in
    words_full size w words full b (omega arith) (λ m below. at.before m (omega arith) below)

-- its lowest bit that is 0, below the size or not
pub first_below : (size w : ℕ) (words full : List ℕ) → AreBits size words full → first_failing (is_marked full) 0 (64 * length full) ≡ Some w → w < length words →
    slice_index words w < 2 ^ 64 → 64 * w + trailing_ones w64 (slice_index words w) < size →
    first_failing (is_marked words) 0 size ≡ Some (64 * w + trailing_ones w64 (slice_index words w))
first_below size w words full b found there fits below =
    let first : _ = first_zero words w (words_before size w words full b found there) (word_not_full size w words full b found there fits) in
    let clear = first.0.clear in
    let before = first.0.before.at in
    failing_found (is_marked words) 0 size (64 * w + trailing_ones w64 (slice_index words w)) (omega arith) (omega arith) clear (λ m above under. before m under)

pub first_past : (size w : ℕ) (words full : List ℕ) → AreBits size words full → first_failing (is_marked full) 0 (64 * length full) ≡ Some w → w < length words →
    slice_index words w < 2 ^ 64 → size ≤ 64 * w + trailing_ones w64 (slice_index words w) → first_failing (is_marked words) 0 size ≡ None
first_past size w words full b found there fits past =
    let first : _ = first_zero words w (words_before size w words full b found there) (word_not_full size w words full b found there fits) in
    let before = first.0.before.at in
    failing_none (is_marked words) 0 size (λ m above below. before m (omega arith))

-- a number's word
pub word_there : (size n : ℕ) (words full : List ℕ) → AreBits size words full → n < size → n / 64 < length words
word_there size n words full b h = let room : size ≤ 64 * length words = b.words_room in omega arith

pub summary_there : (size n : ℕ) (words full : List ℕ) → AreBits size words full → n < size → n / 64 / 64 < length full
summary_there size n words full b h =
    let room : length words ≤ 64 * length full = b.full_room in let word : n / 64 < length words = word_there size n words full b h in omega arith

-- A bit that becomes 1, with that of its word where the word becomes full.
summary_full_by : (size n w : ℕ) (words full : List ℕ) (b : Bool) → (w == n / 64) ≡ b → AreBits size words full → n < size →
    slice_index (marked n words) (n / 64) ≡ 2 ^ 64 - 1 → w < length words → is_marked (marked (n / 64) full) w ≡ is_full (slice_index (marked n words) w)
summary_full_by size n w words full true is bits h e there =
    let same : w ≡ n / 64 = grind (arith, nat_tests) in
    let one : is_marked (marked (n / 64) full) (n / 64) ≡ true = (marked_changed (n / 64) full (summary_there size n words full bits h)).there in
    rw same (one ∙ sym (eq-eqb (slice_index (marked n words) (n / 64)) (2 ^ 64 - 1) e))
summary_full_by size n w words full false is bits h e there =
    let apart : w ≢ n / 64 = eqb-false w (n / 64) is in
    let summary : is_marked (marked (n / 64) full) w ≡ is_marked full w = (marked_changed (n / 64) full (summary_there size n words full bits h)).others w apart in
    summary ∙ bits.summary w there ∙ ap is_full (sym (marked_other n w words apart))

pub taken_full : (size n : ℕ) (words full : List ℕ) → AreBits size words full → n < size → is_full (slice_index (marked n words) (n / 64)) ≡ true →
    AreBits size (marked n words) (marked (n / 64) full)
taken_full size n words full b h e = record {
  limit = b.limit;
  words_room = rw (length-marked n words) b.words_room;
  words_limit = rw (length-marked n words) b.words_limit;
  full_room = rw (length-marked n words, length-marked (n / 64) full) b.full_room;
  full_limit = rw (length-marked (n / 64) full) b.full_limit;
  summary = λ w there. summary_full_by size n w words full (w == n / 64) refl b h (full_word (marked n words) (n / 64) e) (rw (length-marked n words) at there);
}

was_not_full : (size n : ℕ) (words full : List ℕ) → AreBits size words full → n < size → slice_index (marked n words) (n / 64) ≢ 2 ^ 64 - 1 →
    is_full (slice_index words (n / 64)) ≡ false
was_not_full size n words full b h apart =
    ne_eqb (slice_index words (n / 64)) (2 ^ 64 - 1) (λ e. apart (full_stays n words (word_there size n words full b h) e))

summary_kept_by : (size n w : ℕ) (words full : List ℕ) (b : Bool) → (w == n / 64) ≡ b → AreBits size words full → n < size →
    slice_index (marked n words) (n / 64) ≢ 2 ^ 64 - 1 → w < length words → is_marked full w ≡ is_full (slice_index (marked n words) w)
summary_kept_by size n w words full true is bits h e there =
    let same : w ≡ n / 64 = grind (arith, nat_tests) in
    let word : n / 64 < length words = word_there size n words full bits h in
    rw same
    (bits.summary (n / 64) word ∙ was_not_full size n words full bits h e ∙ sym (ne_eqb (slice_index (marked n words) (n / 64)) (2 ^ 64 - 1) e))
summary_kept_by size n w words full false is bits h e there =
    bits.summary w there ∙ ap is_full (sym (marked_other n w words (eqb-false w (n / 64) is)))

pub taken_kept : (size n : ℕ) (words full : List ℕ) → AreBits size words full → n < size → is_full (slice_index (marked n words) (n / 64)) ≡ false →
    AreBits size (marked n words) full
taken_kept size n words full b h e = record {
  limit = b.limit;
  words_room = rw (length-marked n words) b.words_room;
  words_limit = rw (length-marked n words) b.words_limit;
  full_room = rw (length-marked n words) b.full_room;
  full_limit = b.full_limit;
  summary = λ w there. summary_kept_by size n w words full (w == n / 64) refl b h (eqb-false (slice_index (marked n words) (n / 64)) (2 ^ 64 - 1) e) (rw (length-marked n words) at there);
}

-- A bit that becomes 0, with that of its word.
summary_cleared_by : (size n w : ℕ) (words full : List ℕ) (b : Bool) → (w == n / 64) ≡ b → AreBits size words full → n < size → w < length words →
    is_marked (cleared (n / 64) full) w ≡ is_full (slice_index (cleared n words) w)
summary_cleared_by size n w words full true is bits h there =
    let same : w ≡ n / 64 = grind (arith, nat_tests) in
    let none : is_marked (cleared (n / 64) full) (n / 64) ≡ false = (cleared_changed (n / 64) full (summary_there size n words full bits h)).there in
    rw same (none ∙ sym (cleared_not_full n words (word_there size n words full bits h)))
summary_cleared_by size n w words full false is bits h there =
    let apart : w ≢ n / 64 = eqb-false w (n / 64) is in
    let summary : is_marked (cleared (n / 64) full) w ≡ is_marked full w = (cleared_changed (n / 64) full (summary_there size n words full bits h)).others w apart in
    summary ∙ bits.summary w there ∙ ap is_full (sym (cleared_other n w words apart))

pub given_bits : (size n : ℕ) (words full : List ℕ) → AreBits size words full → n < size → AreBits size (cleared n words) (cleared (n / 64) full)
given_bits size n words full b h = record {
  limit = b.limit;
  words_room = rw (length-cleared n words) b.words_room;
  words_limit = rw (length-cleared n words) b.words_limit;
  full_room = rw (length-cleared n words, length-cleared (n / 64) full) b.full_room;
  full_limit = rw (length-cleared (n / 64) full) b.full_limit;
  summary = λ w there. summary_cleared_by size n w words full (w == n / 64) refl b h (rw (length-cleared n words) at there);
}
