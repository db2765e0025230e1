-- What an AMF is made with.
use Rattle.std.specs.Prelude.{◌≡◌, ◌≤◌, ℕ, true, false, not, ◌==◌, ◌||◌, ◌&&◌, Bool, nat_le, List, [], ◌∷◌, length, if◌then◌else◌}
use Rattle.std.specs.Str.{bytes_eq}
use Rattle.nas_base.specs.Plmn.{PlmnIdentity}
use Rattle.nas_base.specs.Supi.{is_of_plmn}
use Rattle.amf_core.specs.declared.config.AmfSubscriber.{AmfSubscriber}
use Rattle.amf_core.specs.declared.config.Configured.{Configured}

-- what stays as it was configured, the first 5G-TMSI, and the subscribers
pub record AmfBeginnings : Type 0 where
  pub values : Configured
  pub tmsi : ℕ
  pub subscribers : List AmfSubscriber

-- at most 64 subscribers of this network, no SUPI twice
abbrev pub has_same_supi : AmfSubscriber → List AmfSubscriber → Bool
has_same_supi s [] = false
has_same_supi s (other ∷ others) = if bytes_eq other.supi s.supi then true else has_same_supi s others

abbrev pub are_distinct : List AmfSubscriber → Bool
are_distinct [] = true
are_distinct (s ∷ others) = not (has_same_supi s others) && are_distinct others

abbrev pub are_of_plmn : PlmnIdentity → List AmfSubscriber → Bool
are_of_plmn plmn [] = true
are_of_plmn plmn (s ∷ others) = is_of_plmn plmn s.supi && are_of_plmn plmn others

abbrev pub are_subscribers : List AmfSubscriber → Bool
are_subscribers subscribers = nat_le (length subscribers) 64 && are_distinct subscribers

-- the ciphering that is preferred is none (0) or 128-NEA2; 5G-TMSIs start at 1 or above
pub record IsAmf (b : AmfBeginnings) : Type 0 where
  pub ciphering : (b.values.nea == 0 || b.values.nea == 2) ≡ true
  pub numbers : 1 ≤ b.tmsi
  pub network : are_of_plmn b.values.plmn b.subscribers ≡ true
