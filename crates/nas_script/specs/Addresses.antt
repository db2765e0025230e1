-- Dotted addresses.
use Rattle.std.specs.Prelude.{ℕ, ◌+◌, List, [], ◌∷◌, take, drop, length, nat_lt, ◌==◌, Option, Some, None, if◌then◌else◌}
use Rattle.nas_script.specs.Numbers.{octet_in}

-- the octets before the first dot
abbrev pub before_dot : List ℕ → ℕ
before_dot [] = 0
before_dot (c ∷ cs) = if c == 46 then 0 else 1 + before_dot cs

infixl 10 ◌>>=◌
abbrev pub ◌>>=◌ : {A B : Type 0} → Option A → (A → Option B) → Option B
None >>= f = None
(Some x) >>= f = f x

-- a number before a dot, and what stands behind the dot
abbrev pub first_part : List ℕ → List ℕ
first_part text = take (before_dot text) text

abbrev pub behind_dot : List ℕ → Option (List ℕ)
behind_dot text = if nat_lt (before_dot text) (length text) then Some (drop (before_dot text + 1) text) else None

-- four numbers below 256, with a dot between one and the next
abbrev pub address_in : List ℕ → Option (List ℕ)
address_in text = do
  first ← octet_in (first_part text)
  behind_first ← behind_dot text
  second ← octet_in (first_part behind_first)
  behind_second ← behind_dot behind_first
  third ← octet_in (first_part behind_second)
  behind_third ← behind_dot behind_second
  fourth ← octet_in behind_third
  Some (first ∷ second ∷ third ∷ fourth ∷ [])
