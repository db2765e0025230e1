-- The generic key derivation function (TS 33.220 Annex B.2).
use Rattle.std.specs.Prelude.{ℕ, List, [], ◌∷◌, ◌++◌, length}
use Rattle.byteorder.specs.Endian.{big_bytes}
use Rattle.key_chain.specs.Hmac.{hmac}

-- a parameter, then its length in two octets
abbrev pub counted : List ℕ → List ℕ
counted p = p ++ big_bytes 2 (length p)

-- P0, L0, P1, L1, and so on
abbrev pub all_counted : List (List ℕ) → List ℕ
all_counted [] = []
all_counted (p ∷ ps) = counted p ++ all_counted ps

-- HMAC-SHA-256 of the key over S = FC, P0, L0, P1, L1, and so on
unfoldable pub kdf : List ℕ → ℕ → List (List ℕ) → List ℕ
kdf key fc ps = hmac key (fc ∷ all_counted ps)
