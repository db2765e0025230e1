-- A message of a table is read back from the octets of its pieces.
use Rattle.std.proofs.Common.{◌≡◌, ◌∙◌, ℕ, ◌==◌, true, false, List, [], ◌∷◌, ◌++◌, Option, Some, None, Ok, map, arith, refl, ap, sym}
use Rattle.std.specs.Prelude.{◌&&◌, is_some}
use Rattle.std.specs.List.{list_all}
use Rattle.std.proofs.lemmas.Bool.Decides.{nat_tests}
use Rattle.nas_base.specs.Reading.{Place}
use Rattle.nas_base.specs.Walking.{Element, RowParts, elements_in, firsts, form_of, is_row, value_of}
use Rattle.nas_base.specs.declared.shape.Form.{Form}
use Rattle.nas_base.specs.declared.shape.Form.TheVariants.{Half, Fixed, Tlv, Tlve}
use Rattle.nas_layout.proofs.SpellsLaws.{spelled_laid}
use Rattle.nas_layout.proofs.WrittenLaws.{both, written_are_found}
use Rattle.nas_layout.specs.Pieces.{WrittenElement, element_octets, joined, optional, pieces_octets}
use Rattle.nas_layout.specs.ReadBack.{AllFit, ElementsBack, TableBack, are_distinct, are_legible, has_iei, is_formed_by, met, met_of}
use Rattle.nas_layout.specs.Spelling.{Spells}
use Rattle.nas_layout.specs.Table.{Elements, Table, element, element_pieces, elements, gathered, laid, message, part, passed_over, pieces, read_as, rows}

-- each of these elements is found
abbrev pub AllFound : List Element → List WrittenElement → Type 0
AllFound found [] = Unit {0}
AllFound found (w ∷ ws) = (value_of w.iei found ≡ met w.iei w.form w.value) × AllFound found ws

-- elements that are found and read back make their message
pub found_back : {A : Type 0} (es : Elements A) (m : A) (found : List Element) → AllFound found (element_pieces es m) → ElementsBack es m → gathered found es ≡ m
found_back (message x) m found all back = back
found_back (passed_over iei form rest) m found all back = found_back rest m found all back
found_back (element iei form coding from next) m found all back =
    let known : read_as coding.reading (value_of iei found) ≡ from m = ap (read_as coding.reading) all.0 ∙ back.0.back in
    ap (λ x. gathered found (next x)) known ∙ found_back (next (from m)) m found all.1 back.1

pub all_fit : {A : Type 0} (es : Elements A) (m : A) → ElementsBack es m → AllFit (element_pieces es m)
all_fit (message x) m back = tt
all_fit (passed_over iei form rest) m back = all_fit rest m back
all_fit (element iei form coding from next) m back = (back.0.fits, all_fit (next (from m)) m back.1)

pub optional_octets : (ws : List WrittenElement) → pieces_octets (map (λ w. optional w) ws) ≡ joined element_octets ws
optional_octets [] = refl
optional_octets (w ∷ ws) = ap (λ (os : List ℕ). element_octets w ++ os) (optional_octets ws)

-- each of these elements is met under its identifier among all
abbrev AllMet : List WrittenElement → List WrittenElement → Type 0
AllMet all [] = Unit {0}
AllMet all (w ∷ ws) = (met_of w.iei all ≡ met w.iei w.form w.value) × AllMet all ws

met_behind : (w : WrittenElement) (all us : List WrittenElement) → has_iei w.iei us ≡ false → AllMet all us → AllMet (w ∷ all) us
met_behind w all [] apart h = tt
met_behind w all (u ∷ us) apart h =
    let differ : (u.iei == w.iei) ≡ false = grind (arith, nat_tests) in
    (rw differ h.0, met_behind w all us (grind (arith, nat_tests)) h.1)

all_met : (ws : List WrittenElement) → are_distinct ws ≡ true → AllMet ws ws
all_met [] distinct = tt
all_met (w ∷ ws) distinct =
    let apart : has_iei w.iei ws ≡ false = grind (arith, nat_tests) in
    let same : (w.iei == w.iei) ≡ true = grind (arith, nat_tests) in
    (rw same refl, met_behind w ws ws apart (all_met ws (grind (arith, nat_tests))))

-- an identifier of the shape
in_shape : (shape : List RowParts) (iei : ℕ) (form : Form) → is_formed_by shape iei form ≡ true → is_some (form_of shape iei) ≡ true
in_shape shape iei form h = go form (form_of shape iei) refl h where
  go : (f : Form) (found : Option Form) → form_of shape iei ≡ found → is_formed_by shape iei f ≡ true → is_some (form_of shape iei) ≡ true
  go f (Some g) is h = rw is refl
  go Half None is h = let none : false ≡ true = rw is at h in cc
  go (Fixed n) None is h = let none : false ≡ true = rw is at h in cc
  go Tlv None is h = let none : false ≡ true = rw is at h in cc
  go Tlve None is h = let none : false ≡ true = rw is at h in cc

found_of : (shape : List RowParts) (all ws : List WrittenElement) (found : List Element)
    → ((iei : ℕ) → is_some (form_of shape iei) ≡ true → value_of iei found ≡ met_of iei all)
    → list_all (λ (w : WrittenElement). is_formed_by shape w.iei w.form) ws ≡ true → AllMet all ws → AllFound found ws
found_of shape all [] found each formed met = tt
found_of shape all (w ∷ ws) found each formed met =
    let these = both (is_formed_by shape w.iei w.form) (list_all (λ (u : WrittenElement). is_formed_by shape u.iei u.form) ws) formed in
    (each w.iei (in_shape shape w.iei w.form these.0) ∙ met.0, found_of shape all ws found each these.1 met.1)

elements_back : {A : Type 0} (es : Elements A) (m : A) → are_legible (rows es) (element_pieces es m) ≡ true → ElementsBack es m
    → gathered (firsts (rows es) (elements_in (rows es) (pieces_octets (map (λ w. optional w) (element_pieces es m))))) es ≡ m
elements_back es m legible back =
    let ws = element_pieces es m in
    let shape = rows es in
    let all_rows = both (list_all (λ (row : RowParts). is_row row.iei row.form) shape) (list_all (λ (w : WrittenElement). is_formed_by shape w.iei w.form) ws && are_distinct ws) legible in
    let these = both (list_all (λ (w : WrittenElement). is_formed_by shape w.iei w.form) ws) (are_distinct ws) all_rows.1 in
    ap (λ (os : List ℕ). gathered (firsts shape (elements_in shape os)) es) (optional_octets ws)
    ∙ found_back es m (firsts shape (elements_in shape (joined element_octets ws)))
    (found_of shape ws ws (firsts shape (elements_in shape (joined element_octets ws))) (λ iei has. written_are_found shape ws iei legible (all_fit es m back) has)
    these.0 (all_met ws these.1))
    back

-- The octets of a message's pieces spell it,
pub table_spells : {A : Type 0} (t : Table A) (m : A) → TableBack t m → Spells t (pieces_octets (pieces t m)) m
table_spells (elements es) m back = sym (elements_back es m back.0 back.1)
table_spells (part frame coding from next) m back = record {
  piece = coding.octets (from m);
  rest = pieces_octets (pieces (next (from m)) m);
  value = from m;
  whole = refl;
  fits = back.0.fits;
  means = back.0.back;
  behind = table_spells (next (from m)) m back.1;
}

-- and are read as it.
pub table_laid : {A : Type 0} (t : Table A) (m : A) (n : ℕ) (p : Place) → p.left ≡ pieces_octets (pieces t m) → TableBack t m → laid t n p ≡ Ok m
table_laid t m n p is back = spelled_laid t n p m (rw is (table_spells t m back))
