-- The lines of a file.
use Rattle.std.specs.Prelude.{ℕ, ◌+◌, Bool, false, not, List, [], ◌∷◌, ◌==◌, nat_lt, if◌then◌else◌}
use Rattle.std.specs.List.{list_all}

-- one more octet in front of the first line
abbrev pub with_first : ℕ → List (List ℕ) → List (List ℕ)
with_first c [] = (c ∷ []) ∷ []
with_first c (l ∷ ls) = (c ∷ l) ∷ ls

-- What stands between line feeds. Behind the last feed there is one more line, which may be empty.
abbrev pub split : List ℕ → List (List ℕ)
split [] = [] ∷ []
split (c ∷ cs) = if c == 10 then [] ∷ split cs else with_first c (split cs)

-- an event line: one that is neither empty nor a comment
abbrev pub is_event : List ℕ → Bool
is_event [] = false
is_event (c ∷ cs) = not (c == 35)

abbrev pub count_events : List (List ℕ) → ℕ
count_events [] = 0
count_events (l ∷ ls) = (if is_event l then 1 else 0) + count_events ls

abbrev pub all_ascii : List ℕ → Bool
all_ascii text = list_all (λ c. nat_lt c 128) text
