-- Elements that are written one behind the other are all found.
use Rattle.std.proofs.Common.{◌≡◌, ◌∙◌, ℕ, ◌+◌, ◌==◌, Bool, true, false, List, [], ◌∷◌, ◌++◌, Option, Some, None, arith, refl, ap}
use Rattle.std.specs.Prelude.{◌&&◌}
use Rattle.std.specs.List.{list_all}
use Rattle.std.proofs.lemmas.Bool.Decides.{nat_tests}
use Rattle.nas_base.specs.declared.shape.Form.{Form}
use Rattle.nas_base.specs.declared.shape.Form.TheVariants.{Half, Fixed, Tlv, Tlve}
use Rattle.nas_base.specs.Walking.{Element, RowParts, elements_in, form_of, high_of, is_half, is_row, kept, value_of}
use Rattle.nas_base.specs.WalkLaws.{AreRows}
use Rattle.nas_layout.proofs.ElementLaws.{firsts_found, half_read, kept_found, kept_passed, tlv_read, tlve_read, tv_read}
use Rattle.nas_layout.specs.Laws.{WrittenAreFound}
use Rattle.nas_layout.specs.Pieces.{WrittenElement, element_octets, formed_if_there, joined}
use Rattle.nas_layout.specs.ReadBack.{AllFit, FitsForm, are_distinct, has_iei, is_alone, is_fixed, is_formed_by, is_tlv, is_tlve, met, met_of}

-- what a walk finds of them
abbrev pub kept_of : List WrittenElement → List Element
kept_of [] = []
kept_of (w ∷ ws) = kept w.iei (met w.iei w.form w.value) (kept_of ws)

form_tlv : (form : Option Form) → is_tlv form ≡ true → form ≡ Some Tlv
form_tlv None is = cc
form_tlv (Some Half) is = cc
form_tlv (Some (Fixed n)) is = cc
form_tlv (Some Tlv) is = refl
form_tlv (Some Tlve) is = cc

form_tlve : (form : Option Form) → is_tlve form ≡ true → form ≡ Some Tlve
form_tlve None is = cc
form_tlve (Some Half) is = cc
form_tlve (Some (Fixed n)) is = cc
form_tlve (Some Tlv) is = cc
form_tlve (Some Tlve) is = refl

form_fixed : (n : ℕ) (form : Option Form) → is_fixed n form ≡ true → form ≡ Some (Fixed n)
form_fixed n None is = cc
form_fixed n (Some Half) is = cc
form_fixed n (Some (Fixed m)) is = let same : m ≡ n = grind (arith, nat_tests) in ap (λ (k : ℕ). Some (Fixed k)) same
form_fixed n (Some Tlv) is = cc
form_fixed n (Some Tlve) is = cc

form_half : (form : Option Form) → is_half form ≡ true → form ≡ Some Half
form_half None is = cc
form_half (Some Half) is = refl
form_half (Some (Fixed n)) is = cc
form_half (Some Tlv) is = cc
form_half (Some Tlve) is = cc

pub both : (a b : Bool) → (a && b) ≡ true → (a ≡ true) × (b ≡ true)
both true b h = (refl, h)
both false b h = cc

one_read : (shape : List RowParts) (iei : ℕ) (form : Form) (value : Option (List ℕ)) (rest : List ℕ) → AreRows shape → is_formed_by shape iei form ≡ true
    → FitsForm form value → elements_in shape (formed_if_there iei form value ++ rest) ≡ kept iei (met iei form value) (elements_in shape rest)
one_read shape iei Tlv value rest rows is fits = tlv_read shape iei value rest rows (form_tlv (form_of shape iei) is)
one_read shape iei Tlve value rest rows is fits = tlve_read shape iei value rest rows (form_tlve (form_of shape iei) is) fits
one_read shape iei (Fixed n) value rest rows is fits = tv_read shape iei n value rest rows (form_fixed n (form_of shape iei) is) fits
one_read shape iei Half value rest rows is fits =
    let high = both (is_half (form_of shape iei) && is_alone shape iei) (high_of iei == iei) is in
    let alone = both (is_half (form_of shape iei)) (is_alone shape iei) high.0 in
    let same : high_of iei ≡ iei = grind (arith, nat_tests, high.1) in
    half_read shape iei value rest rows (form_half (form_of shape iei) alone.0) alone.1 same

pub all_read : (shape : List RowParts) (ws : List WrittenElement) → AreRows shape → list_all (λ (w : WrittenElement). is_formed_by shape w.iei w.form) ws ≡ true
    → AllFit ws → elements_in shape (joined element_octets ws) ≡ kept_of ws
all_read shape [] rows are fit = refl
all_read shape (w ∷ ws) rows are fit =
    let these = both (is_formed_by shape w.iei w.form) (list_all (λ (u : WrittenElement). is_formed_by shape u.iei u.form) ws) are in
    one_read shape w.iei w.form w.value (joined element_octets ws) rows these.0 fit.0
    ∙ ap (kept w.iei (met w.iei w.form w.value)) (all_read shape ws rows these.1 fit.1)

none_of : (iei : ℕ) (ws : List WrittenElement) → has_iei iei ws ≡ false → value_of iei (kept_of ws) ≡ None
none_of iei [] none = refl
none_of iei (w ∷ ws) none =
    kept_passed iei w.iei (met w.iei w.form w.value) (kept_of ws) (grind (arith, nat_tests))
    ∙ none_of iei ws (grind (arith, nat_tests))

kept_by : (iei : ℕ) (w : WrittenElement) (ws : List WrittenElement) (b : Bool) → (iei == w.iei) ≡ b → are_distinct (w ∷ ws) ≡ true
    → value_of iei (kept_of ws) ≡ met_of iei ws → value_of iei (kept_of (w ∷ ws)) ≡ met_of iei (w ∷ ws)
kept_by iei w ws true is distinct later =
    let same : iei ≡ w.iei = grind (arith, nat_tests) in
    let none : has_iei w.iei ws ≡ false = grind (arith, nat_tests) in
    rw is (
    ap (λ (i : ℕ). value_of i (kept_of (w ∷ ws))) same
    ∙ kept_found w.iei (met w.iei w.form w.value) (kept_of ws) (none_of w.iei ws none))
kept_by iei w ws false is distinct later =
    kept_passed iei w.iei (met w.iei w.form w.value) (kept_of ws) is ∙ (rw is later)

pub one_found : (iei : ℕ) (ws : List WrittenElement) → are_distinct ws ≡ true → value_of iei (kept_of ws) ≡ met_of iei ws
one_found iei [] distinct = refl
one_found iei (w ∷ ws) distinct =
    kept_by iei w ws (iei == w.iei) refl distinct (one_found iei ws (grind (arith, nat_tests)))

-- What was written under an identifier is found, behind a walk over all that was written.
pub written_are_found : WrittenAreFound
written_are_found shape ws iei legible fit has =
    let rows = both (list_all (λ (row : RowParts). is_row row.iei row.form) shape) (list_all (λ (w : WrittenElement). is_formed_by shape w.iei w.form) ws && are_distinct ws) legible in
    let are = both (list_all (λ (w : WrittenElement). is_formed_by shape w.iei w.form) ws) (are_distinct ws) rows.1 in
    firsts_found shape (elements_in shape (joined element_octets ws)) iei has
    ∙ ap (value_of iei) (all_read shape ws rows.0 are.0 fit)
    ∙ one_found iei ws are.1
