-- Subscription permanent identifiers that are IMSIs (TS 23.003 clause 2.2A).
use Rattle.std.specs.Prelude.{ℕ, Bool, List, length, drop, nat_eq, Option, Some, None, if◌then◌else◌}
use Rattle.std.specs.List.{starts_with}
use Rattle.nas_base.specs.Digits.{are_digits}
use Rattle.nas_base.specs.Plmn.{PlmnIdentity, plmn_digits}

-- 15 digits
abbrev pub supi_from : List ℕ → Option (List ℕ)
supi_from ds = if are_digits 15 15 ds then Some ds else None

-- the IMSI is one of this network's
abbrev pub is_of_plmn : PlmnIdentity → List ℕ → Bool
is_of_plmn p supi = starts_with nat_eq supi (plmn_digits p)

-- the digits behind the network's: the MSIN
abbrev pub msin_of : PlmnIdentity → List ℕ → List ℕ
msin_of p supi = drop (length (plmn_digits p)) supi
