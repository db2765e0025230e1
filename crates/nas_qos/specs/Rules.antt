-- The QoS rules of a session, by identifier.
use Rattle.std.specs.Prelude.{◌≡◌, ℕ, ◌+◌, ◌≤◌, Bool, true, not, List, [], ◌∷◌, length, nat_eq, nat_lt, ◌&&◌, if◌then◌else◌}
use Rattle.std.specs.List.{list_all, list_any}
use Rattle.nas_qos.specs.Filters.{PacketFilter, is_filters}

pub record QosRule : Type 0 where
  pub id : ℕ
  pub default : Bool
  pub filters : List PacketFilter
  pub precedence : ℕ
  pub qfi : ℕ

-- a rule has filters, each of which has a direction
abbrev pub has_direction : PacketFilter → Bool
has_direction filter = nat_lt 0 filter.direction

abbrev pub is_rule : QosRule → Bool
is_rule rule =
    nat_lt 0 rule.id && nat_lt 0 (length rule.filters) && is_filters rule.filters && list_all has_direction rule.filters && nat_lt rule.qfi 64

-- identifiers rise
abbrev pub ids_rise : List QosRule → Bool
ids_rise [] = true
ids_rise (rule ∷ rules) = list_all (λ r. nat_lt rule.id r.id) rules && ids_rise rules

-- one of the rules has this precedence
abbrev pub has_precedence : ℕ → List QosRule → Bool
has_precedence precedence rules = list_any (λ r. nat_eq r.precedence precedence) rules

-- no precedence occurs twice
abbrev pub precedences_differ : List QosRule → Bool
precedences_differ [] = true
precedences_differ (rule ∷ rules) = not (has_precedence rule.precedence rules) && precedences_differ rules

-- how many default rules there are, and how many filters in all
abbrev pub defaults_of : List QosRule → ℕ
defaults_of [] = 0
defaults_of (rule ∷ rules) = (if rule.default then 1 else 0) + defaults_of rules

abbrev pub filters_of : List QosRule → ℕ
filters_of [] = 0
filters_of (rule ∷ rules) = length rule.filters + filters_of rules

-- one default rule where there is any rule
abbrev pub defaults_due : List QosRule → ℕ
defaults_due [] = 0
defaults_due (rule ∷ rules) = 1

-- what holds of the rules of a session
pub record IsRules (rules : List QosRule) : Type 0 where
  pub rules_fit : length rules ≤ 16
  pub filters_fit : filters_of rules ≤ 64
  pub ordered : ids_rise rules ≡ true
  pub one_default : defaults_of rules ≡ defaults_due rules
  pub differ : precedences_differ rules ≡ true
  pub each : list_all is_rule rules ≡ true
