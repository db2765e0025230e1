-- The block cipher AES-128 (FIPS 197, whose sections the numbers name). A state is the list of its four columns, and a round key
-- the list of its four words; a column or a word is a list of four elements of the field.
use Rattle.std.specs.Prelude.{ℕ, zero, suc, ◌+◌, ◌*◌, ◌/◌, ◌%◌, ◌^◌, List, [], ◌∷◌, map, slice_index, slice_index_or}
use Rattle.std.specs.Int.{bit_at, sum_through}
use Rattle.std.specs.List.{range_with_len}
use Rattle.aes_cmac.specs.Field.{◌⊕◌, ◌•◌, times_x, inverse}

-- bit i of what the affine map gives of b, and the substitution: the affine map of the inverse (5.1.1)
abbrev pub affine_bit : ℕ → ℕ → ℕ
affine_bit b i =
    (bit_at b i + bit_at b ((i + 4) % 8) + bit_at b ((i + 5) % 8) + bit_at b ((i + 6) % 8) + bit_at b ((i + 7) % 8) + bit_at 0x63 i) % 2

unfoldable pub sub : ℕ → ℕ
sub a = sum_through (λ i. affine_bit (inverse a) i * 2 ^ i) 7

abbrev pub Word : Type 0
Word = List ℕ

abbrev pub State : Type 0
State = List Word

-- a word by its four elements, and a state by the element in row r and column c
abbrev pub word_of : (ℕ → ℕ) → Word
word_of f = map f (0 ∷ 1 ∷ 2 ∷ 3 ∷ [])

abbrev pub state_of : (ℕ → ℕ → ℕ) → State
state_of f = map (λ c. word_of (λ r. f r c)) (0 ∷ 1 ∷ 2 ∷ 3 ∷ [])

-- column c of a state, and the element in row r of it
abbrev pub column : State → ℕ → Word
column s c = slice_index_or s c []

abbrev pub element : State → ℕ → ℕ → ℕ
element s r c = slice_index (column s c) r

-- the state of 16 octets, column after column, and the octets of a state (3.4)
abbrev pub columns : List ℕ → State
columns b = state_of (λ r c. slice_index b (r + 4 * c))

abbrev pub octets_of : State → List ℕ
octets_of s = map (λ i. element s (i % 4) (i / 4)) (range_with_len 0 16)

-- the four steps of a round (5.1.1 to 5.1.4)
unfoldable pub sub_bytes : State → State
sub_bytes s = state_of (λ r c. sub (element s r c))

unfoldable pub shift_rows : State → State
shift_rows s = state_of (λ r c. element s r ((c + r) % 4))

abbrev pub mix_column : Word → Word
mix_column w =
    word_of (λ r. 2 • slice_index w r ⊕ 3 • slice_index w ((r + 1) % 4) ⊕ slice_index w ((r + 2) % 4) ⊕ slice_index w ((r + 3) % 4))

unfoldable pub mix_columns : State → State
mix_columns s = state_of (λ r c. slice_index (mix_column (column s c)) r)

unfoldable pub add_round_key : State → State → State
add_round_key s k = state_of (λ r c. element s r c ⊕ element k r c)

-- words are added element by element, rotated, and substituted (5.2)
abbrev pub add_words : Word → Word → Word
add_words v w = word_of (λ i. slice_index v i ⊕ slice_index w i)

abbrev pub rot_word : Word → Word
rot_word w = word_of (λ i. slice_index w ((i + 1) % 4))

abbrev pub sub_word : Word → Word
sub_word w = word_of (λ i. sub (slice_index w i))

-- the constant of round n + 1: x^n (5.2)
unfoldable pub round_constant : ℕ → ℕ
round_constant zero = 1
round_constant (suc n) = times_x (round_constant n)

-- each word with the sum before it added, where it is v before the first
abbrev pub running_sums : Word → List Word → List Word
running_sums v [] = []
running_sums v (w ∷ ws) = add_words w v ∷ running_sums (add_words w v) ws

-- The round key behind k (5.2): each word is the sum of the word before it and the word four places before it, where for the first
-- one the word before it is rotated and substituted, and the constant is added.
unfoldable pub next_round_key : ℕ → State → State
next_round_key constant k =
    running_sums (add_words (sub_word (rot_word (column k 3))) (constant ∷ 0 ∷ 0 ∷ 0 ∷ []))
    (column k 0 ∷ column k 1 ∷ column k 2 ∷ column k 3 ∷ [])

-- the round keys: the key itself, and ten more (5.2)
unfoldable pub round_key : List ℕ → ℕ → State
round_key key zero = columns key
round_key key (suc n) = next_round_key (round_constant n) (round_key key n)

unfoldable pub key_expansion : List ℕ → List State
key_expansion key = map (round_key key) (range_with_len 0 11)

-- the state behind n rounds with mixing (5.1)
unfoldable pub state_behind : List State → List ℕ → ℕ → State
state_behind keys block zero = add_round_key (columns block) (slice_index_or keys 0 [])
state_behind keys block (suc n) =
    add_round_key (mix_columns (shift_rows (sub_bytes (state_behind keys block n)))) (slice_index_or keys (suc n) [])

-- the cipher under round keys: nine rounds, and a last one without mixing (5.1)
unfoldable pub cipher : List State → List ℕ → List ℕ
cipher keys block = octets_of (add_round_key (shift_rows (sub_bytes (state_behind keys block 9))) (slice_index_or keys 10 []))

-- AES-128 under a key (5)
unfoldable pub aes : List ℕ → List ℕ → List ℕ
aes key = cipher (key_expansion key)
