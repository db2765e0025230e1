-- Further elements of identifiers that stand there already, or that no row has, change no message of a table.
use Rattle.std.proofs.Common.{◌≡◌, ◌∙◌, ℕ, ◌==◌, Bool, true, false, Option, Some, None, List, [], ◌∷◌, ◌++◌, is_some, append-nil, append_assoc, arith, refl, ap, sym}
use Rattle.std.proofs.lemmas.Bool.Decides.{nat_tests}
use Rattle.std.specs.Prelude.{is_none}
use Rattle.nas_base.specs.declared.shape.Form.{Form}
use Rattle.nas_base.proofs.FirstsLaws.{firsts_are_kept}
use Rattle.nas_base.specs.Walking.{Element, RowParts, elements_in, firsts, form_of, kept, value_of}
use Rattle.nas_base.specs.WalkLaws.{AreRows}
use Rattle.nas_layout.specs.FirstElements.{PartsThen, count_nothing, is_walked_whole}
use Rattle.nas_layout.specs.Pieces.{framed}
use Rattle.nas_layout.specs.Spelling.{Spells}
use Rattle.nas_layout.specs.Table.{Elements, Table, elements, gathered, part, rows}
use Rattle.nas_layout.proofs.WalkedWhole.{walked_more}

-- the elements of a table have rows
abbrev pub HasRows : {A : Type 0} → Table A → Type 0
HasRows (part {P} frame coding from next) = (x : P) → HasRows (next x)
HasRows (elements es) = AreRows (rows es)

-- an element of an identifier that no row has
value_passed : (before after : List Element) (e : Element) (iei : ℕ) → (iei == e.iei) ≡ false → value_of iei (before ++ e ∷ after) ≡ value_of iei (before ++ after)
value_passed [] after e iei differ = rw differ refl
value_passed (b ∷ before) after e iei differ = go (iei == b.iei) refl (value_passed before after e iei differ) where
  go : (is : Bool) → (iei == b.iei) ≡ is → value_of iei (before ++ e ∷ after) ≡ value_of iei (before ++ after) → value_of iei ((b ∷ before) ++ e ∷ after) ≡ value_of iei ((b ∷ before) ++ after)
  go true is later = rw is refl
  go false is later = rw is later

firsts_passed : (shape : List RowParts) (before after : List Element) (e : Element) → form_of shape e.iei ≡ None → firsts shape (before ++ e ∷ after) ≡ firsts shape (before ++ after)
firsts_passed [] before after e none = refl
firsts_passed (row ∷ shape) before after e none = go (row.iei == e.iei) refl (λ rest. firsts_passed shape before after e rest) where
  go : (is : Bool) → (row.iei == e.iei) ≡ is → (form_of shape e.iei ≡ None → firsts shape (before ++ e ∷ after) ≡ firsts shape (before ++ after))
      → firsts (row ∷ shape) (before ++ e ∷ after) ≡ firsts (row ∷ shape) (before ++ after)
  go true is later = let some : Some row.form ≡ None = rw is at none in cc
  go false is later =
      let rest : form_of shape e.iei ≡ None = rw is at none in
      ap (λ (v : Option (List ℕ)). kept row.iei v (firsts shape (before ++ e ∷ after))) (value_passed before after e row.iei is)
      ∙ ap (kept row.iei (value_of row.iei (before ++ after))) (later rest)

is_no_row : (shape : List RowParts) (before es : List Element) (e : Element) → is_some (value_of e.iei before) ≡ false
    → count_nothing shape before (e ∷ es) ≡ true → form_of shape e.iei ≡ None
is_no_row shape before es e new h = go (form_of shape e.iei) refl where
  go : (form : Option Form) → form_of shape e.iei ≡ form → form_of shape e.iei ≡ None
  go None is = is
  go (Some form) is =
      let none : is_none (form_of shape e.iei) ≡ true = grind (arith, nat_tests) in
      let differ : false ≡ true = rw is at none in cc

firsts_counted : (shape : List RowParts) (before es : List Element) → count_nothing shape before es ≡ true → firsts shape (before ++ es) ≡ firsts shape before
firsts_counted shape before [] h = ap (firsts shape) (append-nil before)
firsts_counted shape before (e ∷ es) h = go (is_some (value_of e.iei before)) refl (firsts_counted shape before es (grind (arith, nat_tests))) where
  go : (is : Bool) → is_some (value_of e.iei before) ≡ is → firsts shape (before ++ es) ≡ firsts shape before → firsts shape (before ++ e ∷ es) ≡ firsts shape before
  go true is later = firsts_are_kept.repeated shape before es e is ∙ later
  go false is later = firsts_passed shape before es e (is_no_row shape before es e is h) ∙ later

firsts_more : (shape : List RowParts) (tail more : List ℕ) → AreRows shape → is_walked_whole shape tail ≡ true
    → count_nothing shape (elements_in shape tail) (elements_in shape more) ≡ true → firsts shape (elements_in shape (tail ++ more)) ≡ firsts shape (elements_in shape tail)
firsts_more shape tail more rows ends counted =
    ap (firsts shape) (walked_more shape tail more rows ends) ∙ firsts_counted shape (elements_in shape tail) (elements_in shape more) counted

-- a message that octets spell, and with more behind them too
pub record Alike {A : Type 0} (t : Table A) (octets more : List ℕ) : Type 0 where
  pub made : A
  pub spelled : Spells t octets made
  pub still : Spells t (octets ++ more) made

alike_elements : {A : Type 0} (es : Elements A) (octets : List ℕ) (shape : List RowParts) (tail more : List ℕ) → AreRows (rows es)
    → shape ≡ rows es → tail ≡ octets → is_walked_whole shape tail ≡ true → count_nothing shape (elements_in shape tail) (elements_in shape more) ≡ true
    → Alike (elements es) octets more
alike_elements es octets shape tail more has shaped ended whole counted =
    let ends : is_walked_whole (rows es) octets ≡ true = rw (← shaped, ← ended) whole in
    let there : count_nothing (rows es) (elements_in (rows es) octets) (elements_in (rows es) more) ≡ true = rw (← shaped, ← ended) counted in
    record {
      made = gathered (firsts (rows es) (elements_in (rows es) octets)) es;
      spelled = refl;
      still = ap (λ (found : List Element). gathered found es) (sym (firsts_more (rows es) octets more has ends there));
    }

pub alike : {A : Type 0} (t : Table A) (octets : List ℕ) (shape : List RowParts) (tail more : List ℕ) → HasRows t → PartsThen t shape tail octets
    → is_walked_whole shape tail ≡ true → count_nothing shape (elements_in shape tail) (elements_in shape more) ≡ true → Alike t octets more
alike (elements es) octets shape tail more has ends whole counted =
    alike_elements es octets shape tail more has ends.0 ends.1 whole counted
alike (part frame coding from next) octets shape tail more has s whole counted =
    let a = alike (next s.value) s.rest shape tail more (has s.value) s.behind whole counted in
    record {
      made = a.made;
      spelled = record { piece = s.piece; rest = s.rest; value = s.value; whole = s.whole; fits = s.fits; means = s.means; behind = a.spelled };
      still = record {
        piece = s.piece;
        rest = s.rest ++ more;
        value = s.value;
        whole = ap (λ (os : List ℕ). os ++ more) s.whole ∙ append_assoc (framed frame s.piece) s.rest more;
        fits = s.fits;
        means = s.means;
        behind = a.still;
      };
    }
