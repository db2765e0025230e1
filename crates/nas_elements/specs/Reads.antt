-- What a reader of a value answers: the value, or the place where octets stop being the front of any value's octets.
use Rattle.std.specs.Prelude.{◌≡◌, ◌<◌, ◌≤◌, ◌+◌, ℕ, List, ◌++◌, length, take, Option, Some, None, Result, Ok, Err}
use Rattle.nas_elements.specs.declared.wrong.Wrong.{Wrong}

-- A reading says which value octets have, or that they have none. A front of octets starts a value where some octets can follow
-- it so that all of them together have one.
pub record StartsAValue {A : Type 0} (reading : List ℕ → Option A) (front : List ℕ) : Type 0 where
  pub rest : List ℕ
  pub value : A
  pub whole : reading (front ++ rest) ≡ Some value

-- The place, counted from 0: the octets before it are the front of some value's octets, and with the octet that stands
-- there, if one does, they are the front of none. Where octets just end too early the place is their number.
pub record IsWrongAt {A : Type 0} (reading : List ℕ → Option A) (octets : List ℕ) (at : ℕ) : Type 0 where
  pub within : at ≤ length octets
  pub before : StartsAValue reading (take at octets)
  pub here : at < length octets → StartsAValue reading (take (at + 1) octets) → ⊥

-- what a reader answered: the value, or the place where there is none
abbrev pub Reads : {A : Type 0} → (List ℕ → Option A) → List ℕ → Result A Wrong → Type 0
Reads reading octets (Ok value) = reading octets ≡ Some value
Reads reading octets (Err wrong) = (reading octets ≡ None) × IsWrongAt reading octets wrong.at
