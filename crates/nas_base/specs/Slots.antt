-- The places that a walk fills.
use Rattle.std.specs.Prelude.{ℕ, List, [], ◌∷◌, map, ◌==◌, ◌&&◌, Option, Some, None, is_none, if◌then◌else◌}
use Rattle.nas_base.specs.Walking.{Element, RowParts, kept}

-- a place for the first element of a row
pub record SlotParts : Type 0 where
  pub iei : ℕ
  pub value : Option (List ℕ)

-- the elements in the places that are taken
abbrev pub taken : List SlotParts → List Element
taken [] = []
taken (s ∷ ss) = kept s.iei s.value (taken ss)

abbrev pub vacant : List RowParts → List SlotParts
vacant rows = map (λ row. record { iei = row.iei; value = None }) rows

-- an element takes each place of its identifier that is vacant
abbrev pub noted : ℕ → List ℕ → SlotParts → SlotParts
noted iei value s = if s.iei == iei && is_none s.value then record { iei = s.iei; value = Some value } else s

abbrev pub all_noted : List SlotParts → List Element → List SlotParts
all_noted slots [] = slots
all_noted slots (e ∷ es) = all_noted (map (noted e.iei e.value) slots) es
