-- Numbers kept as the bits of words.
use Rattle.std.specs.Prelude.{◌≡◌, ◌≤◌, ◌<◌, ◌-◌, ◌*◌, ◌/◌, ◌%◌, ◌^◌, ℕ, zero, suc, Bool, List, [], ◌∷◌, length, ◌==◌, if◌then◌else◌, slice_index, slice_set, bit_and, bit_or}
use Rattle.std.specs.Int.{w64, bit_at, bit_not}

-- of the word n / 64 the bit n % 64 is 1
abbrev pub is_marked : List ℕ → ℕ → Bool
is_marked words n = bit_at (slice_index words (n / 64)) (n % 64) == 1

-- all bits of a word are 1
abbrev pub is_full : ℕ → Bool
is_full word = word == 2 ^ 64 - 1

-- the words after this bit becomes 1, or 0
unfoldable pub marked : ℕ → List ℕ → List ℕ
marked n words = slice_set words (n / 64) (bit_or (slice_index words (n / 64)) (1 * 2 ^ (n % 64) % 2 ^ 64))

unfoldable pub cleared : ℕ → List ℕ → List ℕ
cleared n words = slice_set words (n / 64) (bit_and (slice_index words (n / 64)) (bit_not w64 (1 * 2 ^ (n % 64) % 2 ^ 64)))

-- of so many numbers, from this one on, those that pass the test, in rising order
abbrev pub passing : (ℕ → Bool) → ℕ → ℕ → List ℕ
passing test from zero = []
passing test from (suc count) = if test from then from ∷ passing test (suc from) count else passing test (suc from) count

-- There is a bit for each number and for each word. A word's own bit is 1 exactly where all of the word's are.
pub record AreBits (size : ℕ) (words full : List ℕ) : Type 0 where
  pub limit : size ≤ 65536
  pub words_room : size ≤ 64 * length words
  pub words_limit : length words ≤ 1024
  pub full_room : length words ≤ 64 * length full
  pub full_limit : length full ≤ 16
  pub summary : (w : ℕ) → w < length words → is_marked full w ≡ is_full (slice_index words w)
