-- PLMN identities (TS 23.003 clause 12.1), whose codes an IMSI begins with (clause 2.2).
use Rattle.std.specs.Prelude.{ℕ, Bool, List, ◌++◌, take, drop, ◌&&◌, Option, Some, None, if◌then◌else◌}
use Rattle.nas_base.specs.Digits.{are_digits}

-- a mobile country code and a mobile network code
pub record PlmnIdentity : Type 0 where
  pub mcc : List ℕ
  pub mnc : List ℕ

-- 3 digits of a country, 2 or 3 of a network
abbrev pub is_plmn : List ℕ → List ℕ → Bool
is_plmn mcc mnc = are_digits 3 3 mcc && are_digits 2 3 mnc

-- the network of two codes, where they are such
abbrev pub plmn_from : List ℕ → List ℕ → Option PlmnIdentity
plmn_from mcc mnc = if is_plmn mcc mnc then Some (record { mcc = mcc; mnc = mnc }) else None

-- the digits of both codes, as an IMSI begins
abbrev pub plmn_digits : PlmnIdentity → List ℕ
plmn_digits p = p.mcc ++ p.mnc

-- the network of 5 or 6 digits, the first 3 of which are the country's
abbrev pub plmn_of_digits : List ℕ → Option PlmnIdentity
plmn_of_digits ds = plmn_from (take 3 ds) (drop 3 ds)
