-- What a walk over elements keeps.
use Rattle.std.specs.Prelude.{◌≡◌, ◌<◌, ℕ, ◌+◌, ◌^◌, true, List, [], ◌∷◌, ◌++◌, length, None, is_some}
use Rattle.std.specs.List.{list_all}
use Rattle.nas_base.specs.Walking.{Element, RowParts, elements_in, firsts, form_in, form_of, head_of, headed, identifier_in, is_row, value_of}
use Rattle.nas_base.specs.Writing.{lve, tlv}
use Rattle.nas_base.specs.declared.shape.Form.TheVariants.{Half, Fixed, Tlv, Tlve}

-- Of all elements the first of an identifier is kept where a row has it, and else none. An element behind one of its identifier
-- changes nothing.
pub record FirstsAreKept : Type 0 where
  pub listed : (shape : List RowParts) (es : List Element) (iei : ℕ) → is_some (form_of shape iei) ≡ true → value_of iei (firsts shape es) ≡ value_of iei es
  pub unlisted : (shape : List RowParts) (es : List Element) (iei : ℕ) → form_of shape iei ≡ None → value_of iei (firsts shape es) ≡ None
  pub repeated : (shape : List RowParts) (before after : List Element) (e : Element) → is_some (value_of e.iei before) ≡ true →
      firsts shape (before ++ e ∷ after) ≡ firsts shape (before ++ after)

-- of any shape of rows
abbrev pub AreRows : List RowParts → Type 0
AreRows shape = list_all (λ (row : RowParts). is_row row.iei row.form) shape ≡ true

-- Elements are read where they were written, known and unknown ones: each as the first, and then those of the octets behind it.
-- Where the first is cut there are none.
pub record WrittenAreRead : Type 0 where
  pub step : (shape : List RowParts) (octets : List ℕ) → AreRows shape → elements_in shape octets ≡ headed (elements_in shape) (head_of shape octets)
  pub half : (shape : List RowParts) (octet : ℕ) (rest : List ℕ) → AreRows shape → form_in shape (identifier_in shape octet) ≡ Half →
      elements_in shape (octet ∷ rest) ≡ record { iei = identifier_in shape octet; value = octet ∷ [] } ∷ elements_in shape rest
  pub fixed : (shape : List RowParts) (n iei : ℕ) (value rest : List ℕ) → AreRows shape → identifier_in shape iei ≡ iei → form_in shape iei ≡ Fixed n →
      length value + 1 ≡ n → elements_in shape ((iei ∷ value) ++ rest) ≡ record { iei = iei; value = value } ∷ elements_in shape rest
  pub short : (shape : List RowParts) (iei : ℕ) (value rest : List ℕ) → AreRows shape → identifier_in shape iei ≡ iei → form_in shape iei ≡ Tlv →
      elements_in shape (tlv iei value ++ rest) ≡ record { iei = iei; value = value } ∷ elements_in shape rest
  pub long : (shape : List RowParts) (iei : ℕ) (value rest : List ℕ) → AreRows shape → identifier_in shape iei ≡ iei → form_in shape iei ≡ Tlve →
      length value < 2 ^ 16 → elements_in shape ((iei ∷ lve value) ++ rest) ≡ record { iei = iei; value = value } ∷ elements_in shape rest
