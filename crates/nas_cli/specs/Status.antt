-- The statuses that the program ends with.
use Rattle.std.specs.Prelude.{ℕ, Bool, [], ◌∷◌, ◌==◌}
use Rattle.std.specs.List.{list_any}

abbrev pub is_status : ℕ → Bool
is_status n = list_any (λ s. s == n) (0 ∷ 2 ∷ 3 ∷ 4 ∷ 5 ∷ 6 ∷ 8 ∷ 11 ∷ 13 ∷ [])
