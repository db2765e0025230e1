-- Where a rule stands in the list.
use Rattle.std.specs.Prelude.{ℕ, suc, List, [], ◌∷◌, nat_eq, nat_lt, if◌then◌else◌}
use Rattle.nas_qos.specs.Rules.{QosRule}

-- how many rules at the front have a lower identifier
abbrev pub lower : ℕ → List QosRule → ℕ
lower id [] = 0
lower id (rule ∷ rules) = if nat_lt rule.id id then suc (lower id rules) else 0

-- how many rules at the front have another identifier
abbrev pub place : ℕ → List QosRule → ℕ
place id [] = 0
place id (rule ∷ rules) = if nat_eq rule.id id then 0 else suc (place id rules)
