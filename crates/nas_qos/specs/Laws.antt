-- What stays where operations are applied.
use Rattle.std.specs.Prelude.{◌≡◌, ℕ, Bool, false, List, nat_eq, Result, Ok, Err}
use Rattle.std.specs.List.{list_any}
use Rattle.nas_qos.specs.Applying.{found}
use Rattle.nas_qos.specs.Operations.{Operation}
use Rattle.nas_qos.specs.Rules.{QosRule}
use Rattle.nas_qos.specs.declared.refusals.QosFault.{QosFault}

-- each rule of another identifier is there behind the operation as it was before, or is there neither time
abbrev pub OthersStay : Operation → List QosRule → Result (List QosRule) QosFault → Type 0
OthersStay op old (Ok new) = (id : ℕ) → nat_eq op.id id ≡ false → found id new ≡ found id old
OthersStay op old (Err fault) = Unit {0}

-- one of the operations is on the rule of this identifier
abbrev pub is_named : ℕ → List Operation → Bool
is_named id ops = list_any (λ op. nat_eq op.id id) ops

-- so for each rule that no operation names
abbrev pub UnnamedStay : List Operation → List QosRule → Result (List QosRule) QosFault → Type 0
UnnamedStay ops old (Ok new) = (id : ℕ) → is_named id ops ≡ false → found id new ≡ found id old
UnnamedStay ops old (Err fault) = Unit {0}
