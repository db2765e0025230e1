-- Decimal digits, each a number from 0 to 9.
use Rattle.std.specs.Prelude.{ℕ, Bool, List, length, nat_lt, nat_le, ◌&&◌, Option, Some, None, if◌then◌else◌}
use Rattle.std.specs.List.{list_all}

-- each is a digit
abbrev pub all_digits : List ℕ → Bool
all_digits ds = list_all (λ d. nat_lt d 10) ds

-- low to high digits
abbrev pub are_digits : ℕ → ℕ → List ℕ → Bool
are_digits low high ds = nat_le low (length ds) && nat_le (length ds) high && all_digits ds

-- as many as are kept: 1 to 15
abbrev pub digits_from : List ℕ → Option (List ℕ)
digits_from ds = if are_digits 1 15 ds then Some ds else None

-- the digits themselves, where there are low to high of them, and no more than are kept
abbrev pub digits_between : ℕ → ℕ → List ℕ → Option (List ℕ)
digits_between low high ds = if are_digits low high ds then digits_from ds else None
