-- The pieces that a message is written as, one behind the other: its mandatory parts, and the elements that it may have (TS 24.007
-- clauses 11.2.1.1 and 11.2.4).
use Rattle.std.specs.Prelude.{ℕ, ◌+◌, ◌%◌, Bool, nat_le, List, [], ◌∷◌, ◌++◌, slice_index, Option, Some, None}
use Rattle.nas_base.specs.Writing.{lv, lve}
use Rattle.nas_base.specs.declared.shape.Form.{Form}
use Rattle.nas_base.specs.declared.shape.Form.TheVariants.{Half, Fixed, Tlv, Tlve}
use Rattle.nas_layout.specs.declared.frame.Frame.{Frame}
use Rattle.nas_layout.specs.declared.frame.Frame.TheVariants.{V, Lv, Lve}

-- an element as it is written: its identifier, its form, and its value where it is there
pub record WrittenElement : Type 0 where
  pub iei : ℕ
  pub form : Form
  pub value : Option (List ℕ)

-- a part in its frame, or an element
pub data Piece : Type 0 where
  mandatory : Frame → List ℕ → Piece
  optional : WrittenElement → Piece

-- octets in a frame
abbrev pub framed : Frame → List ℕ → List ℕ
framed (V n) octets = octets
framed Lv octets = lv octets
framed Lve octets = lve octets

-- so many octets may be in a frame
abbrev pub is_room_in : Frame → ℕ → Bool
is_room_in (V n) size = nat_le size 4100
is_room_in Lv size = nat_le size 255
is_room_in Lve size = nat_le size 4100

-- an element: its identifier with the value's low half in its own; its identifier and the value; and so with a length between them, of
-- one octet or of two
abbrev pub formed : ℕ → Form → List ℕ → List ℕ
formed iei Half octets = (iei + slice_index octets 0 % 16) ∷ []
formed iei (Fixed n) octets = iei ∷ octets
formed iei Tlv octets = iei ∷ lv octets
formed iei Tlve octets = iei ∷ lve octets

-- so many octets may be under an identifier
abbrev pub is_room_under : ℕ → Form → ℕ → Bool
is_room_under iei Half size = nat_le iei 240
is_room_under iei (Fixed n) size = nat_le size 4100
is_room_under iei Tlv size = nat_le size 255
is_room_under iei Tlve size = nat_le size 4100

abbrev pub formed_if_there : ℕ → Form → Option (List ℕ) → List ℕ
formed_if_there iei form None = []
formed_if_there iei form (Some octets) = formed iei form octets

abbrev pub element_octets : WrittenElement → List ℕ
element_octets w = formed_if_there w.iei w.form w.value

-- the octets of a piece, and of pieces one behind the other
abbrev pub piece_octets : Piece → List ℕ
piece_octets (mandatory frame octets) = framed frame octets
piece_octets (optional w) = element_octets w

abbrev pub joined : {A : Type 0} → (A → List ℕ) → List A → List ℕ
joined octets_of [] = []
joined octets_of (x ∷ xs) = octets_of x ++ joined octets_of xs

abbrev pub pieces_octets : List Piece → List ℕ
pieces_octets pieces = joined piece_octets pieces
