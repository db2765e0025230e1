-- Lists of records that each have a key.
use Rattle.std.specs.Prelude.{Bool, List, [], ◌∷◌, Option, Some, None, if◌then◌else◌}

-- the first record that a test holds of
abbrev pub found : {A : Type 0} → (A → Bool) → List A → Option A
found is [] = None
found is (x ∷ xs) = if is x then Some x else found is xs

-- a record in the place of those of its key
abbrev pub put_in : {A : Type 0} → (A → A → Bool) → A → List A → List A
put_in same y [] = []
put_in same y (x ∷ xs) = (if same y x then y else x) ∷ put_in same y xs

-- the first of these records that has the key of another
abbrev pub newest : {A : Type 0} → (A → A → Bool) → List A → A → Option A
newest same [] x = None
newest same (y ∷ ys) x = if same y x then Some y else newest same ys x

-- a record as it is by now, and each record so
abbrev pub or_kept : {A : Type 0} → Option A → A → A
or_kept None x = x
or_kept (Some y) x = y

abbrev pub current : {A : Type 0} → (A → A → Bool) → List A → A → A
current same ys x = or_kept (newest same ys x) x

abbrev pub all_current : {A : Type 0} → (A → A → Bool) → List A → List A → List A
all_current same ys [] = []
all_current same ys (x ∷ xs) = current same ys x ∷ all_current same ys xs
