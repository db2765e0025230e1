-- What objects of the outside tell of their calls: octets where they are known, and a count of faults that never falls.
use Rattle.std.specs.Prelude.{◌≡◌, ℕ, ◌+◌, ◌-◌, ◌^◌, ◌≤◌, max, min, Bool, true, false, List, ◌++◌, Option, Result, Ok, Err, MatchBool}
use Rattle.std.specs.Io.KnownBytes.{Appends}
use Rattle.nas_base.specs.declared.outside.WriteRefusal.{WriteRefusal}
use Rattle.nas_base.specs.declared.outside.WriteRefusal.TheVariants.{Failed, Memory}

-- the count rose in the call; one that stands at the end of its type stays there, and counts as having risen
abbrev pub Rose : ℕ → ℕ → Type 0
Rose before now = max before (min (before + 1) (2 ^ 64 - 1)) ≤ now

-- some front of the text was appended
pub record AppendsFront (old new : Option (List ℕ)) (text : List ℕ) : Type 0 where
  pub front : List ℕ
  pub rest : List ℕ
  pub parts : text ≡ front ++ rest
  pub appended : Appends old new front

-- What became of a text that was to be written: with Ok it was appended whole; with a refusal a front of it was, and a
-- refusal that is a fault of the sink (the test says which are) comes only where the sink's count rose.
abbrev pub Tells : {T E : Type 0} → (E → Bool) → Option (List ℕ) → Option (List ℕ) → ℕ → ℕ → List ℕ → Result T E → Type 0
Tells is_fault old new before now text (Ok _) = Appends old new text × (before ≤ now)
Tells is_fault old new before now text (Err e) = AppendsFront old new text × MatchBool (is_fault e) (Rose before now) (before ≤ now)

-- a write was refused by a fault of the sink
abbrev pub is_failed : WriteRefusal → Bool
is_failed Failed = true
is_failed Memory = false
