-- The elements behind the mandatory parts of a message (TS 24.007 clauses 11.2.1.1 and 11.2.4).
use Rattle.std.specs.Prelude.{ℕ, zero, suc, ◌+◌, ◌*◌, ◌/◌, Bool, true, false, List, [], ◌∷◌, length, take, drop, slice_index, nat_lt, nat_le, ◌==◌, ◌&&◌, ◌||◌, Option, Some, None, is_none, if◌then◌else◌}
use Rattle.nas_base.specs.declared.shape.Form.{Form}
use Rattle.nas_base.specs.declared.shape.Form.TheVariants.{Half, Fixed, Tlv, Tlve}

-- a row of a shape: an identifier, and the form of its element
pub record RowParts : Type 0 where
  pub iei : ℕ
  pub form : Form

-- a half has one of four identifiers; a fixed number of octets counts the identifier
abbrev pub is_row : ℕ → Form → Bool
is_row iei Half = iei == 0x80 || iei == 0x90 || iei == 0xA0 || iei == 0xD0
is_row iei (Fixed n) = nat_le 1 n
is_row iei Tlv = true
is_row iei Tlve = true

-- at most 32 rows
abbrev pub shape_from : List RowParts → Option (List RowParts)
shape_from rows = if nat_le (length rows) 32 then Some rows else None

-- the form of an identifier: that of the first of its rows
abbrev pub form_of : List RowParts → ℕ → Option Form
form_of [] iei = None
form_of (row ∷ rows) iei = if row.iei == iei then Some row.form else form_of rows iei

-- it is the form of a half
abbrev pub is_half : Option Form → Bool
is_half None = false
is_half (Some Half) = true
is_half (Some (Fixed n)) = false
is_half (Some Tlv) = false
is_half (Some Tlve) = false

-- an octet with its low half 0
abbrev pub high_of : ℕ → ℕ
high_of octet = 16 * (octet / 16)

-- The identifier in an octet: the octet where a row has it; its high half where that is the row of a half; else the octet.
abbrev pub identifier_in : List RowParts → ℕ → ℕ
identifier_in shape octet = if is_none (form_of shape octet) && is_half (form_of shape (high_of octet)) then high_of octet else octet

-- How long an element is that no row tells of: from 80 on it is its identifier alone, in the seventies (70 to 7F) two octets
-- of length follow, and below one does.
abbrev pub unknown_form : ℕ → Form
unknown_form iei = if nat_le 0x80 iei then Fixed 1 else (if nat_le 0x70 iei then Tlve else Tlv)

-- a form, or another where there is none
abbrev pub form_or : Option Form → Form → Form
form_or None otherwise = otherwise
form_or (Some form) otherwise = form

-- the form of an identifier, known or unknown
abbrev pub form_in : List RowParts → ℕ → Form
form_in shape iei = form_or (form_of shape iei) (unknown_form iei)

-- where the value begins
abbrev pub start_of : Form → ℕ
start_of Half = 0
start_of (Fixed n) = 1
start_of Tlv = 2
start_of Tlve = 3

-- how many octets the element has that begins here: more than there are, where its length is cut
abbrev pub size_of : Form → List ℕ → ℕ
size_of Half octets = 1
size_of (Fixed n) octets = n
size_of Tlv octets = 2 + slice_index octets 1
size_of Tlve octets = 3 + (256 * slice_index octets 1 + slice_index octets 2)

-- the element that begins some octets, and the octets behind it
pub record Head : Type 0 where
  pub iei : ℕ
  pub value : List ℕ
  pub behind : List ℕ

-- an element of this identifier and form, where it isn't cut
abbrev pub cut : ℕ → Form → List ℕ → Option Head
cut iei form octets =
    if nat_le (size_of form octets) (length octets)
    then Some (record { iei = iei; value = drop (start_of form) (take (size_of form octets) octets); behind = drop (size_of form octets) octets })
    else None

-- the element that begins the octets, if its identifier is this one
abbrev pub head_as : List RowParts → ℕ → List ℕ → Option Head
head_as shape iei octets = cut iei (form_in shape iei) octets

-- the element that begins the octets, where there are any and it isn't cut
abbrev pub head_of : List RowParts → List ℕ → Option Head
head_of shape octets = if nat_lt 0 (length octets) then head_as shape (identifier_in shape (slice_index octets 0)) octets else None

-- an element: its identifier, and its value without identifier and length; that of a half is its octet
pub record Element : Type 0 where
  pub iei : ℕ
  pub value : List ℕ

-- the element of a head, then those behind it
abbrev pub headed : (List ℕ → List Element) → Option Head → List Element
headed rest None = []
headed rest (Some h) = record { iei = h.iei; value = h.value } ∷ rest h.behind

-- the elements that stand in the octets, in order, up to the first that is cut, but no more than so many
abbrev pub elements_within : ℕ → List RowParts → List ℕ → List Element
elements_within zero shape octets = []
elements_within (suc n) shape octets = headed (elements_within n shape) (head_of shape octets)

-- all that stand there: no element is shorter than one octet, so there are no more elements than octets
abbrev pub elements_in : List RowParts → List ℕ → List Element
elements_in shape octets = elements_within (length octets) shape octets

-- the value of the first element with this identifier
abbrev pub value_of : ℕ → List Element → Option (List ℕ)
value_of iei [] = None
value_of iei (e ∷ es) = if iei == e.iei then Some e.value else value_of iei es

-- an element where there is one
abbrev pub kept : ℕ → Option (List ℕ) → List Element → List Element
kept iei None rest = rest
kept iei (Some value) rest = record { iei = iei; value = value } ∷ rest

-- the first element of each row
abbrev pub firsts : List RowParts → List Element → List Element
firsts [] es = []
firsts (row ∷ rows) es = kept row.iei (value_of row.iei es) (firsts rows es)
