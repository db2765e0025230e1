-- What a message of a table needs so that it is read back from the octets that it is written as.
use Rattle.std.specs.Prelude.{◌≡◌, ◌<◌, ℕ, ◌+◌, ◌/◌, ◌^◌, ◌==◌, Bool, true, false, not, ◌&&◌, ◌||◌, List, [], ◌∷◌, length, slice_index, Option, Some, None, IfSome, option_map, if◌then◌else◌}
use Rattle.std.specs.List.{list_all, list_any}
use Rattle.nas_base.specs.Walking.{RowParts, form_of, high_of, is_half, is_row}
use Rattle.nas_base.specs.declared.shape.Form.{Form}
use Rattle.nas_base.specs.declared.shape.Form.TheVariants.{Half, Fixed, Tlv, Tlve}
use Rattle.nas_layout.specs.Coding.{Coding}
use Rattle.nas_layout.specs.Pieces.{WrittenElement, formed}
use Rattle.nas_layout.specs.Spelling.{Fits}
use Rattle.nas_layout.specs.Table.{Elements, Table, element, element_pieces, elements, message, part, passed_over, read_as, rows}
use Rattle.nas_layout.specs.declared.frame.Frame.{Frame}

-- a row has this form
abbrev pub is_tlv : Option Form → Bool
is_tlv None = false
is_tlv (Some Half) = false
is_tlv (Some (Fixed n)) = false
is_tlv (Some Tlv) = true
is_tlv (Some Tlve) = false

abbrev pub is_tlve : Option Form → Bool
is_tlve None = false
is_tlve (Some Half) = false
is_tlve (Some (Fixed n)) = false
is_tlve (Some Tlv) = false
is_tlve (Some Tlve) = true

abbrev pub is_fixed : ℕ → Option Form → Bool
is_fixed n None = false
is_fixed n (Some Half) = false
is_fixed n (Some (Fixed m)) = m == n
is_fixed n (Some Tlv) = false
is_fixed n (Some Tlve) = false

-- no other row has an identifier with the same high half
abbrev pub is_alone : List RowParts → ℕ → Bool
is_alone shape iei = list_all (λ (row : RowParts). row.iei == iei || not (row.iei / 16 == iei / 16)) shape

-- an element has the form of its row, and the octet of a half could be no other row's identifier
abbrev pub is_formed_by : List RowParts → ℕ → Form → Bool
is_formed_by shape iei Half = is_half (form_of shape iei) && is_alone shape iei && high_of iei == iei
is_formed_by shape iei (Fixed n) = is_fixed n (form_of shape iei)
is_formed_by shape iei Tlv = is_tlv (form_of shape iei)
is_formed_by shape iei Tlve = is_tlve (form_of shape iei)

abbrev pub has_iei : ℕ → List WrittenElement → Bool
has_iei iei ws = list_any (λ (w : WrittenElement). iei == w.iei) ws

abbrev pub are_distinct : List WrittenElement → Bool
are_distinct [] = true
are_distinct (w ∷ ws) = not (has_iei w.iei ws) && are_distinct ws

-- elements of a shape, each of its row's form, and no two of one identifier
abbrev pub are_legible : List RowParts → List WrittenElement → Bool
are_legible shape ws =
    list_all (λ (row : RowParts). is_row row.iei row.form) shape
    && (list_all (λ (w : WrittenElement). is_formed_by shape w.iei w.form) ws && are_distinct ws)

-- how long the value of an element may be; a length of one octet is a number here, and has no limit
abbrev pub FitsForm : Form → Option (List ℕ) → Type 0
FitsForm Half value = IfSome value (λ octets. slice_index octets 0 < 16)
FitsForm (Fixed n) value = IfSome value (λ octets. length octets + 1 ≡ n)
FitsForm Tlv value = Unit {0}
FitsForm Tlve value = IfSome value (λ octets. length octets < 2 ^ 16)

abbrev pub AllFit : List WrittenElement → Type 0
AllFit [] = Unit {0}
AllFit (w ∷ ws) = FitsForm w.form w.value × AllFit ws

-- what a walk finds of an element: its value, of a half the whole octet
abbrev pub met : ℕ → Form → Option (List ℕ) → Option (List ℕ)
met iei Half value = option_map (λ octets. formed iei Half octets) value
met iei (Fixed n) value = value
met iei Tlv value = value
met iei Tlve value = value

-- and under an identifier
abbrev pub met_of : ℕ → List WrittenElement → Option (List ℕ)
met_of iei [] = None
met_of iei (w ∷ ws) = if iei == w.iei then met w.iei w.form w.value else met_of iei ws

-- a part, and an element, whose value is read back
pub record PartBack {P : Type 0} (frame : Frame) (coding : Coding P) (x : P) : Type 0 where
  pub fits : Fits frame (coding.octets x)
  pub back : coding.reading (coding.octets x) ≡ Some x

pub record ElementBack {P : Type 0} (iei : ℕ) (form : Form) (coding : Coding P) (x : Option P) : Type 0 where
  pub fits : FitsForm form (option_map coding.octets x)
  pub back : read_as coding.reading (met iei form (option_map coding.octets x)) ≡ x

-- all of a message's are, and its parts and elements make it
abbrev pub ElementsBack : {A : Type 0} → Elements A → A → Type 0
ElementsBack (element iei form coding from next) m = ElementBack iei form coding (from m) × ElementsBack (next (from m)) m
ElementsBack (passed_over iei form rest) m = ElementsBack rest m
ElementsBack (message x) m = x ≡ m

abbrev pub TableBack : {A : Type 0} → Table A → A → Type 0
TableBack (part frame coding from next) m = PartBack frame coding (from m) × TableBack (next (from m)) m
TableBack (elements es) m = (are_legible (rows es) (element_pieces es m) ≡ true) × ElementsBack es m
