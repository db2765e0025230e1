-- Elements are found as they were written.
use Rattle.std.proofs.Common.{◌≡◌, ◌∙◌, ℕ, ◌+◌, ◌*◌, ◌/◌, ◌%◌, ◌<◌, ◌==◌, Bool, true, false, List, [], ◌∷◌, ◌++◌, slice_index, Option, Some, None, arith, refl, ap}
use Rattle.std.specs.Prelude.{not, ◌||◌, is_some}
use Rattle.std.proofs.lemmas.Bool.Decides.{nat_tests}
use Rattle.nas_base.proofs.FirstsLaws.{firsts_are_kept}
use Rattle.nas_base.proofs.WrittenLaws.{written_are_read}
use Rattle.nas_base.specs.declared.shape.Form.{Form}
use Rattle.nas_base.specs.declared.shape.Form.TheVariants.{Half, Fixed, Tlv, Tlve}
use Rattle.nas_base.specs.Walking.{Element, RowParts, elements_in, firsts, form_in, form_of, high_of, identifier_in, kept, value_of}
use Rattle.nas_base.specs.WalkLaws.{AreRows}
use Rattle.nas_layout.specs.Pieces.{formed, formed_if_there}
use Rattle.nas_layout.specs.ReadBack.{FitsForm, is_alone, met}

-- an identifier that a row has
named : (shape : List RowParts) (iei : ℕ) (form : Form) → form_of shape iei ≡ Some form → identifier_in shape iei ≡ iei
named shape iei form has = rw has refl

formed_as : (shape : List RowParts) (iei : ℕ) (form : Form) → form_of shape iei ≡ Some form → form_in shape iei ≡ form
formed_as shape iei form has = rw has refl

pub tlv_read : (shape : List RowParts) (iei : ℕ) (value : Option (List ℕ)) (rest : List ℕ) → AreRows shape → form_of shape iei ≡ Some Tlv →
    elements_in shape (formed_if_there iei Tlv value ++ rest) ≡ kept iei value (elements_in shape rest)
tlv_read shape iei None rest rows has = refl
tlv_read shape iei (Some octets) rest rows has =
    written_are_read.short shape iei octets rest rows (named shape iei Tlv has) (formed_as shape iei Tlv has)

pub tlve_read : (shape : List RowParts) (iei : ℕ) (value : Option (List ℕ)) (rest : List ℕ) → AreRows shape → form_of shape iei ≡ Some Tlve →
    FitsForm Tlve value → elements_in shape (formed_if_there iei Tlve value ++ rest) ≡ kept iei value (elements_in shape rest)
tlve_read shape iei None rest rows has size = refl
tlve_read shape iei (Some octets) rest rows has size =
    written_are_read.long shape iei octets rest rows (named shape iei Tlve has) (formed_as shape iei Tlve has) size

-- a fixed number of octets behind the identifier
pub tv_read : (shape : List RowParts) (iei n : ℕ) (value : Option (List ℕ)) (rest : List ℕ) → AreRows shape → form_of shape iei ≡ Some (Fixed n) →
    FitsForm (Fixed n) value → elements_in shape (formed_if_there iei (Fixed n) value ++ rest) ≡ kept iei value (elements_in shape rest)
tv_read shape iei n None rest rows has size = refl
tv_read shape iei n (Some octets) rest rows has size =
    written_are_read.fixed shape n iei octets rest rows (named shape iei (Fixed n) has) (formed_as shape iei (Fixed n) has) size

later : (row : RowParts) (rows : List RowParts) (iei half : ℕ) → (row.iei == iei || not (row.iei / 16 == iei / 16)) ≡ true → 16 * (iei / 16) ≡ iei
    → 0 < half → half < 16 → (b : Bool) → (row.iei == iei + half) ≡ b → form_of rows (iei + half) ≡ None → form_of (row ∷ rows) (iei + half) ≡ None
later row rows iei half apart high some small true is none = grind (arith, nat_tests)
later row rows iei half apart high some small false is none = rw is none

unlisted : (shape : List RowParts) (iei half : ℕ) → is_alone shape iei ≡ true → 16 * (iei / 16) ≡ iei → 0 < half → half < 16 → form_of shape (iei + half) ≡ None
unlisted [] iei half alone high some small = refl
unlisted (row ∷ rows) iei half alone high some small =
    let apart : (row.iei == iei || not (row.iei / 16 == iei / 16)) ≡ true = grind (arith, nat_tests) in
    later row rows iei half apart high some small (row.iei == iei + half) refl
    (unlisted rows iei half (grind (arith, nat_tests)) high some small)

high_half : (shape : List RowParts) (iei half : ℕ) → is_alone shape iei ≡ true → high_of iei ≡ iei → form_of shape iei ≡ Some Half → half < 16 →
    identifier_in shape (iei + half) ≡ iei
high_half shape iei half alone high has small = go (half == 0) refl where
  go : (b : Bool) → (half == 0) ≡ b → identifier_in shape (iei + half) ≡ iei
  go true is =
      let none : iei + half ≡ iei = grind (arith, nat_tests) in
      ap (identifier_in shape) none ∙ named shape iei Half has
  go false is =
      let some : 0 < half = grind (arith, nat_tests) in
      let same : high_of (iei + half) ≡ iei = omega arith in
      rw (unlisted shape iei half alone high some small, same, has) refl

pub half_read : (shape : List RowParts) (iei : ℕ) (value : Option (List ℕ)) (rest : List ℕ) → AreRows shape → form_of shape iei ≡ Some Half →
    is_alone shape iei ≡ true → high_of iei ≡ iei
    → elements_in shape (formed_if_there iei Half value ++ rest) ≡ kept iei (met iei Half value) (elements_in shape rest)
half_read shape iei None rest rows has alone high = refl
half_read shape iei (Some octets) rest rows has alone high =
    let small : slice_index octets 0 % 16 < 16 = omega arith in
    let id : identifier_in shape (iei + slice_index octets 0 % 16) ≡ iei = high_half shape iei (slice_index octets 0 % 16) alone high has small in
    let is : form_in shape (identifier_in shape (iei + slice_index octets 0 % 16)) ≡ Half = ap (form_in shape) id ∙ formed_as shape iei Half has in
    written_are_read.half shape (iei + slice_index octets 0 % 16) rest rows is
    ∙ ap (λ (i : ℕ). record { iei = i; value = formed iei Half octets } ∷ elements_in shape rest) id

-- what was kept under an identifier is found, and what was kept under another is passed over
pub kept_found : (iei : ℕ) (value : Option (List ℕ)) (es : List Element) → value_of iei es ≡ None → value_of iei (kept iei value es) ≡ value
kept_found iei None es none = none
kept_found iei (Some octets) es none = grind (arith, nat_tests)

pub kept_passed : (iei other : ℕ) (value : Option (List ℕ)) (es : List Element) → (iei == other) ≡ false → value_of iei (kept other value es) ≡ value_of iei es
kept_passed iei other None es differ = refl
kept_passed iei other (Some octets) es differ = rw differ refl

-- of all elements a walk keeps it where a row has it
pub firsts_found : (shape : List RowParts) (es : List Element) (iei : ℕ) → is_some (form_of shape iei) ≡ true → value_of iei (firsts shape es) ≡ value_of iei es
firsts_found shape es iei has = firsts_are_kept.listed shape es iei has
