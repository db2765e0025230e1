-- The name of a serving network (TS 24.501 clause 9.12.1).
use Rattle.std.specs.Prelude.{ℕ, ◌+◌, List, [], ◌∷◌, ◌++◌, map, codes}
use Rattle.nas_base.specs.Plmn.{PlmnIdentity}

-- a code of two digits gets a leading 0
abbrev pub three_digits : List ℕ → List ℕ
three_digits (a ∷ b ∷ []) = 0 ∷ a ∷ b ∷ []
three_digits code = code

-- digits as text
abbrev pub ascii : List ℕ → List ℕ
ascii digits = map (λ d. 0x30 + d) digits

-- 5G:mncNNN.mccNNN.3gppnetwork.org
unfoldable pub snn : PlmnIdentity → List ℕ
snn plmn =
    codes "5G:mnc" ++ (ascii (three_digits plmn.mnc)
    ++ (codes ".mcc" ++ (ascii (three_digits plmn.mcc) ++ codes ".3gppnetwork.org")))
