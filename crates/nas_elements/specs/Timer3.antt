-- GPRS timer 3 (TS 24.008 clause 10.5.7.4a).
use Rattle.std.specs.Prelude.{ℕ, ◌+◌, ◌*◌, ◌/◌, ◌%◌, List, [], ◌∷◌, Option, Some, None}

-- a number of units, and which unit
pub record GprsTimer : Type 0 where
  pub unit : ℕ
  pub value : ℕ

-- one octet: the unit in bits 6 to 8, the number in bits 1 to 5
abbrev pub timer3_in : List ℕ → Option GprsTimer
timer3_in (octet ∷ []) = Some (record { unit = octet / 32; value = octet % 32 })
timer3_in octets = None

abbrev pub timer3_octets : GprsTimer → List ℕ
timer3_octets t = (32 * t.unit + t.value) ∷ []
