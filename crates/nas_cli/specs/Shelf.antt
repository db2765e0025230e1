-- Files in memory, by their names.
use Rattle.std.specs.Prelude.{ℕ, List, [], ◌∷◌, nat_eq, Option, Some, None, unwrap_or, if◌then◌else◌}
use Rattle.std.specs.Cmp.Lexicographic.{pointwise}

-- each file is a name and its octets
abbrev pub Named : Type 0
Named = List ℕ × List ℕ

-- the octets of the first file of this name
abbrev pub file_named : List ℕ → List Named → Option (List ℕ)
file_named name [] = None
file_named name (f ∷ fs) = if pointwise nat_eq f.0 name then Some f.1 else file_named name fs

-- the same, where a file that isn't there is empty
abbrev pub octets_named : List ℕ → List Named → List ℕ
octets_named name fs = unwrap_or (file_named name fs) []

-- what is told of them
abbrev pub told_by : List Named → Option (List ℕ → Option (List ℕ))
told_by fs = Some (λ name. file_named name fs)

-- files, and the names that were asked for
pub record ShelfValue : Type 0 where
  pub files : List Named
  pub asked : List (List ℕ)

-- the same, with the numbers of the calls that are to fail, and how many calls and faults there were
pub record TrialValue : Type 0 where
  pub shelf : ShelfValue
  pub failing : List ℕ
  pub calls : ℕ
  pub faults : ℕ
