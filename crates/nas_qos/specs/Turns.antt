-- Items that stand one after the other, each of which tells its own size.
use Rattle.std.specs.Prelude.{ℕ, zero, suc, ◌+◌, List, [], ◌∷◌, ◌++◌, drop, Option, Some, None, Result, Ok, Err}

-- an item, and others behind it; or the place of the first that is wrong
abbrev pub before : {A : Type 0} → ℕ → Option A → Result (List A) ℕ → Result (List A) ℕ
before at None items = Err at
before at (Some item) (Ok items) = Ok (item ∷ items)
before at (Some item) (Err wrong) = Err wrong

-- so many items at most, the first of them at this place: all of them, or the place of the first that is wrong
abbrev pub in_turn : {A : Type 0} → (ℕ → List ℕ → Option A) → (List ℕ → ℕ) → ℕ → ℕ → List ℕ → Result (List A) ℕ
in_turn first size most at [] = Ok []
in_turn first size zero at (octet ∷ octets) = Err at
in_turn first size (suc most) at (octet ∷ octets) =
    before at (first at (octet ∷ octets)) (in_turn first size most (at + size (octet ∷ octets)) (drop (size (octet ∷ octets)) (octet ∷ octets)))

-- what items are written as, one after the other
abbrev pub all_octets : {A : Type 0} → (A → List ℕ) → List A → List ℕ
all_octets octets [] = []
all_octets octets (item ∷ items) = octets item ++ all_octets octets items
