-- What may stand behind a message's elements and changes nothing: further elements of identifiers that stand there already, and of
-- identifiers that the message's table doesn't know (TS 24.007 clause 11.2.4).
use Rattle.std.specs.Prelude.{◌≡◌, ℕ, zero, suc, ◌==◌, ◌||◌, Bool, List, length, Option, Some, None, is_none, is_some}
use Rattle.std.specs.List.{list_all}
use Rattle.nas_base.specs.Walking.{Element, Head, RowParts, form_of, head_of, value_of}
use Rattle.nas_layout.specs.Spelling.{PartSpells}
use Rattle.nas_layout.specs.Table.{Table, elements, part, rows}

-- a walk comes to the end of the octets: no element is cut
abbrev pub ends_after : (List ℕ → Bool) → List ℕ → Option Head → Bool
ends_after rest octets None = length octets == 0
ends_after rest octets (Some h) = rest h.behind

abbrev pub ends_within : ℕ → List RowParts → List ℕ → Bool
ends_within zero shape octets = length octets == 0
ends_within (suc n) shape octets = ends_after (ends_within n shape) octets (head_of shape octets)

abbrev pub is_walked_whole : List RowParts → List ℕ → Bool
is_walked_whole shape octets = ends_within (length octets) shape octets

-- each has the identifier of one before, or one that no row has
abbrev pub count_nothing : List RowParts → List Element → List Element → Bool
count_nothing shape before es = list_all (λ (e : Element). is_some (value_of e.iei before) || is_none (form_of shape e.iei)) es

-- octets are a table's parts one after the other, each in its frame, and then a tail of elements in a shape
abbrev pub PartsThen : {A : Type 0} → Table A → List RowParts → List ℕ → List ℕ → Type 0
PartsThen (part frame coding from next) shape tail octets = PartSpells frame coding.reading (λ x rest. PartsThen (next x) shape tail rest) octets
PartsThen (elements es) shape tail octets = (shape ≡ rows es) × (tail ≡ octets)
