-- How a value stands in a message.
use Rattle.std.specs.Prelude.{ℕ, Bool, false, true, List, Option}

-- what its octets read as, what it is written as, and whether it is kept as its octets, which wants memory
pub record Coding (P : Type 0) : Type 0 where
  pub reading : List ℕ → Option P
  pub octets : P → List ℕ
  pub is_kept : P → Bool

-- a value that isn't kept as its octets
abbrev pub value : {P : Type 0} → (List ℕ → Option P) → (P → List ℕ) → Coding P
value reading octets = record { reading = reading; octets = octets; is_kept = λ x. false }

-- octets that are their own value: such as these, held in the value itself, or kept
abbrev pub octets_held : (List ℕ → Option (List ℕ)) → Coding (List ℕ)
octets_held reading = value reading (λ octets. octets)

abbrev pub octets_kept : (List ℕ → Option (List ℕ)) → Coding (List ℕ)
octets_kept reading = record { reading = reading; octets = λ octets. octets; is_kept = λ octets. true }
