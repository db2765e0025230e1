-- CMAC over a block cipher CIPH of 128-bit blocks (RFC 4493, whose sections the numbers name; there CIPH is AES-128).
use Rattle.std.specs.Prelude.{ℕ, zero, suc, ◌-◌, ◌*◌, ◌%◌, ◌^◌, List, ◌∷◌, ◌++◌, length, drop, replicate, bit_xor, nat_lt, ◌==◌, if◌then◌else◌}
use Rattle.std.specs.Int.{w128, from_be_bytes, to_be_bytes}
use Rattle.aes_cmac.specs.Blocks.{xor_of, block_at, block_count}

-- const_Zero (2.2)
abbrev pub zero_block : List ℕ
zero_block = replicate 16 0

-- a block moved by one bit to the left; where a one goes out, const_Rb is added (2.3)
abbrev pub doubled_number : ℕ → ℕ
doubled_number n = if nat_lt n (2 ^ 127) then 2 * n else bit_xor (2 * n % 2 ^ 128) 0x87

unfoldable pub doubled_block : List ℕ → List ℕ
doubled_block block = to_be_bytes w128 (doubled_number (from_be_bytes w128 block))

-- the subkeys K1 and K2 (2.3)
abbrev pub first_subkey : (List ℕ → List ℕ) → List ℕ
first_subkey ciph = doubled_block (ciph zero_block)

abbrev pub second_subkey : (List ℕ → List ℕ) → List ℕ
second_subkey ciph = doubled_block (first_subkey ciph)

-- a cut block, a one, and zeros (2.4)
abbrev pub padded : List ℕ → List ℕ
padded octets = octets ++ 0x80 ∷ replicate (15 - length octets) 0

-- M_last (2.4, step 4)
unfoldable pub last_block : (List ℕ → List ℕ) → List ℕ → List ℕ
last_block ciph octets =
    if length octets == 16 then xor_of octets (first_subkey ciph) else xor_of (padded octets) (second_subkey ciph)

-- X behind the first n blocks, where it is x before them (2.4, steps 5 and 6)
unfoldable pub chained : (List ℕ → List ℕ) → List ℕ → List ℕ → ℕ → List ℕ
chained ciph x octets zero = x
chained ciph x octets (suc n) = ciph (xor_of (chained ciph x octets n) (block_at octets n))

-- how many blocks stand before the last one; a string of no octets has that one too (2.4, steps 2 and 3)
abbrev pub blocks_before_last : List ℕ → ℕ
blocks_before_last octets = block_count octets - 1

-- T, where X is x before the first block; and the MAC of a whole message, where it is zero (2.4, steps 5 and 6)
unfoldable pub cmac_from : (List ℕ → List ℕ) → List ℕ → List ℕ → List ℕ
cmac_from ciph x octets =
    let n = blocks_before_last octets in
    ciph (xor_of (chained ciph x octets n) (last_block ciph (drop (16 * n) octets)))

abbrev pub cmac : (List ℕ → List ℕ) → List ℕ → List ℕ
cmac ciph octets = cmac_from ciph zero_block octets
