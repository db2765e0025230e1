-- The algorithms 128-NIA2 and 128-NEA2 of the Non-Access Stratum (TS 33.501 Annex D, by TS 33.401 Annex B).
use Rattle.std.specs.Prelude.{ℕ, ◌+◌, ◌*◌, ◌^◌, List, ◌++◌, take, replicate}
use Rattle.std.specs.Int.{w64, to_be_bytes}
use Rattle.nas_base.specs.declared.count.Dir.{Dir}
use Rattle.nas_base.specs.declared.count.Dir.TheVariants.{Up, Down}
use Rattle.aes_cmac.specs.Aes.{aes}
use Rattle.aes_cmac.specs.Cmac.{cmac}
use Rattle.aes_cmac.specs.Ctr.{ctr}

-- the bit DIRECTION (D.2.1.1, D.3.1.1)
abbrev pub direction_bit : Dir → ℕ
direction_bit Up = 0
direction_bit Down = 1

-- BEARER: the NAS connection over 3GPP access
abbrev pub bearer : ℕ
bearer = 1

-- COUNT in 32 bits, BEARER in 5, DIRECTION in 1, and 26 zero bits (TS 33.401 B.1.3, B.2.3)
unfoldable pub head : ℕ → Dir → List ℕ
head count dir = to_be_bytes w64 (count * 2 ^ 32 + bearer * 2 ^ 27 + direction_bit dir * 2 ^ 26)

-- the first 32 bits of the CMAC of those 64 bits and the message (TS 33.401 B.2.3)
unfoldable pub nia2 : List ℕ → ℕ → Dir → List ℕ → List ℕ
nia2 key count dir octets = take 4 (cmac (aes key) (head count dir ++ octets))

-- the counter begins at those 64 bits and 64 zero bits (TS 33.401 B.1.3)
unfoldable pub nea2 : List ℕ → ℕ → Dir → List ℕ → List ℕ
nea2 key count dir octets = ctr (aes key) (head count dir ++ replicate 8 0) octets
