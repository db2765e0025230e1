-- What holds of every table, and of elements of any shape.
use Rattle.std.specs.Prelude.{◌≡◌, ◌<◌, ℕ, true, List, Ok, is_some}
use Rattle.std.specs.List.{All}
use Rattle.nas_base.specs.Reading.{Place}
use Rattle.nas_base.specs.Walking.{RowParts, elements_in, firsts, form_of, value_of}
use Rattle.nas_layout.specs.Pieces.{WrittenElement, element_octets, joined}
use Rattle.nas_layout.specs.ReadBack.{AllFit, are_legible, met_of}
use Rattle.nas_layout.specs.Spelling.{Spells}
use Rattle.nas_layout.specs.Table.{Table, laid}

-- numbers that are octets
abbrev pub AreOctets : List ℕ → Type 0
AreOctets octets = All (λ (octet : ℕ). octet < 256) octets

-- Octets spell a message of a table exactly where it is what stands in them. So no octets spell two messages.
pub record SpelledIsLaid {A : Type 0} (table : Table A) : Type 0 where
  pub is_laid : (n : ℕ) (p : Place) (m : A) → Spells table p.left m → laid table n p ≡ Ok m
  pub is_spelled : (n : ℕ) (p : Place) (m : A) → AreOctets p.left → laid table n p ≡ Ok m → Spells table p.left m

-- Of elements that are written one behind the other, each in the form of its row and no two of one identifier, a walk finds each.
abbrev pub WrittenAreFound : Type 0
WrittenAreFound =
    (shape : List RowParts) (ws : List WrittenElement) (iei : ℕ) → are_legible shape ws ≡ true → AllFit ws → is_some (form_of shape iei) ≡ true →
    value_of iei (firsts shape (elements_in shape (joined element_octets ws))) ≡ met_of iei ws
