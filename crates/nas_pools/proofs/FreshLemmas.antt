-- Words of which no bit is 1.
use Rattle.std.proofs.Common.{◌≡◌, ◌<◌, ◌≤◌, ◌+◌, ◌*◌, ◌/◌, ◌%◌, ℕ, zero, suc, Bool, true, false, [], length, replicate, min, arith, refl}
use Rattle.std.specs.Prelude.{nat_lt, slice_index}
use Rattle.std.proofs.lemmas.Bool.Decides.{nat_tests}
use Rattle.std.proofs.lemmas.Grind.{div_ceil_times}
use Rattle.std.proofs.lemmas.List.{get_or-replicate, get_or_past, length-replicate}
use Rattle.std.proofs.lemmas.Nat.Bits.{bit_at-zero}
use Rattle.nas_pools.specs.Bits.{AreBits, is_marked, passing}

zero_word_by : (count w : ℕ) (b : Bool) → nat_lt w count ≡ b → slice_index (replicate count 0) w ≡ 0
zero_word_by count w true is = let h : w < count = grind (arith, nat_tests) in get_or-replicate count w 0 0 h
zero_word_by count w false is =
    let h : count ≤ w = grind (arith, nat_tests) in
    let size : length (replicate count 0) ≤ w = rw (length-replicate {A = ℕ} count 0) h in get_or_past (replicate count 0) w 0 size

zero_word : (count w : ℕ) → slice_index (replicate count 0) w ≡ 0
zero_word count w = zero_word_by count w (nat_lt w count) refl

unmarked : (count n : ℕ) → is_marked (replicate count 0) n ≡ false
unmarked count n = rw (zero_word count (n / 64), bit_at-zero (n % 64)) refl

pub none_pass : (count from size : ℕ) → passing (is_marked (replicate count 0)) from size ≡ []
none_pass count from zero = refl
none_pass count from (suc size) = rw (unmarked count from) (none_pass count (suc from) size)

-- as many words as there have to be
pub fresh_bits : (size words full : ℕ) → size ≤ 65536 → words ≡ size / 64 + min 1 (size % 64) → full ≡ words / 64 + min 1 (words % 64) →
    AreBits size (replicate words 0) (replicate full 0)
fresh_bits size words full limit e f =
    let words_end = div_ceil_times size 64 (omega arith) in
    let full_end = div_ceil_times words 64 (omega arith) in
    let room : size ≤ 64 * words = omega arith in
    let most : words ≤ 1024 = omega arith in
    let full_room : words ≤ 64 * full = omega arith in
    let full_most : full ≤ 16 = omega arith in
    record {
      limit = limit;
      words_room = rw (length-replicate {A = ℕ} words 0) room;
      words_limit = rw (length-replicate {A = ℕ} words 0) most;
      full_room = rw (length-replicate {A = ℕ} words 0, length-replicate {A = ℕ} full 0) full_room;
      full_limit = rw (length-replicate {A = ℕ} full 0) full_most;
      summary = λ w there. rw (unmarked full w, zero_word words w) refl;
    }
