-- Octets in blocks of 16.
use Rattle.std.specs.Prelude.{ℕ, ◌*◌, List, [], ◌∷◌, length, take, drop, bit_xor}
use Rattle.std.specs.Int.{div_ceil}

-- the exclusive or of two strings, as far as the shorter of them goes
abbrev pub xor_of : List ℕ → List ℕ → List ℕ
xor_of [] ys = []
xor_of (x ∷ xs) [] = []
xor_of (x ∷ xs) (y ∷ ys) = bit_xor x y ∷ xor_of xs ys

-- block i of a string, counted from 0; the last one may be cut
abbrev pub block_at : List ℕ → ℕ → List ℕ
block_at octets i = take 16 (drop (16 * i) octets)

-- how many blocks a string has, a cut one too
abbrev pub block_count : List ℕ → ℕ
block_count octets = div_ceil (length octets) 16
