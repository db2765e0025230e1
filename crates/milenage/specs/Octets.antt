-- Strings of octets, the most significant bit of the first octet first.
use Rattle.std.specs.Prelude.{ℕ, ◌/◌, List, ◌++◌, take, drop}
use Rattle.aes_cmac.specs.Blocks.{xor_of}

-- the exclusive or
infixl 10 ◌⊕◌
abbrev pub ◌⊕◌ : List ℕ → List ℕ → List ℕ
x ⊕ y = xor_of x y

-- so many octets from a place on, which is counted from 0
abbrev pub part : ℕ → ℕ → List ℕ → List ℕ
part from count x = take count (drop from x)

-- x, rotated by r bits towards the most significant bit, where r is a multiple of 8
abbrev pub rot : List ℕ → ℕ → List ℕ
rot x r = drop (r / 8) x ++ take (r / 8) x
