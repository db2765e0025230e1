-- What a handset is made with.
use Rattle.std.specs.Prelude.{◌≡◌, ◌<◌, ◌^◌, true, ℕ, List}
use Rattle.nas_base.specs.Plmn.{PlmnIdentity}
use Rattle.nas_base.specs.Supi.{is_of_plmn}
use Rattle.nas_timers.specs.Durations.{DurationParts}

pub record HandsetValues : Type 0 where
  pub supi : List ℕ
  pub plmn : PlmnIdentity
  pub k : List ℕ
  pub opc : List ℕ
  pub sqn : ℕ
  pub capability : List ℕ
  pub durations : DurationParts

-- the SUPI begins with the digits of the network, and a sequence number has 48 bits
abbrev pub IsHandset : List ℕ → PlmnIdentity → ℕ → Type 0
IsHandset supi plmn sqn = (is_of_plmn plmn supi ≡ true) × (sqn < 2 ^ 48)
