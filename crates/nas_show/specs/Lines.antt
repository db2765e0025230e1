-- The line of each piece of a message: of a part as it stands there, of an element its identifier and its value.
use Rattle.std.specs.Prelude.{ℕ, ◌%◌, List, [], ◌∷◌, ◌++◌, codes, slice_index, take, Option, Some, None}
use Rattle.hex.specs.Hex.{encode_lower}
use Rattle.nas_base.specs.declared.shape.Form.{Form}
use Rattle.nas_base.specs.declared.shape.Form.TheVariants.{Half, Fixed, Tlv, Tlve}
use Rattle.nas_layout.specs.Pieces.{Piece, framed, joined, mandatory, optional}

-- a mandatory part
unfoldable pub part_text : List ℕ → List ℕ
part_text octets = codes "  m " ++ (encode_lower octets ++ codes "\n")

-- an element, by its identifier, and its value
unfoldable pub element_text : ℕ → List ℕ → List ℕ
element_text iei octets = codes "  " ++ (encode_lower (iei ∷ []) ++ (codes " " ++ (encode_lower octets ++ codes "\n")))

-- an element of one octet: the high half is its identifier, of one digit, and its value has two digits all the same
unfoldable pub half_text : ℕ → List ℕ → List ℕ
half_text iei octets =
    codes "  " ++ (take 1 (encode_lower (iei ∷ [])) ++ (codes " " ++ (encode_lower ((slice_index octets 0 % 16) ∷ []) ++ codes "\n")))

abbrev pub text_by_form : ℕ → Form → List ℕ → List ℕ
text_by_form iei Half octets = half_text iei octets
text_by_form iei (Fixed n) octets = element_text iei octets
text_by_form iei Tlv octets = element_text iei octets
text_by_form iei Tlve octets = element_text iei octets

abbrev pub text_if_there : ℕ → Form → Option (List ℕ) → List ℕ
text_if_there iei form None = []
text_if_there iei form (Some octets) = text_by_form iei form octets

abbrev pub piece_text : Piece → List ℕ
piece_text (mandatory frame octets) = part_text (framed frame octets)
piece_text (optional w) = text_if_there w.iei w.form w.value

-- the lines of a message's pieces
abbrev pub lines : List Piece → List ℕ
lines pieces = joined piece_text pieces

-- a text to which the line of a piece is added
abbrev pub with_line : List ℕ → Piece → List ℕ
with_line text piece = text ++ piece_text piece
