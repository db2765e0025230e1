-- How the rows of a machine branch: as `if` and as a match on an option do, but so that a branch stays as it is written until a
-- proof opens it by name.
use Rattle.std.specs.Prelude.{Bool, Option, Some, None, if◌then◌else◌}

infix 5 when◌then◌else◌
-- one of two, by a test
unfoldable pub chosen : {A : Type 0} → Bool → A → A → A
chosen test one other = if test then one else other

abbrev pub when◌then◌else◌ : {A : Type 0} → Bool → A → A → A
when test then one else other = chosen test one other

-- what is done without a value, and what is done with it
unfoldable pub per : {A B : Type 0} → Option A → B → (A → B) → B
per None without with = without
per (Some x) without with = with x
