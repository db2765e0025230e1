-- Of all elements the first of an identifier is kept.
use Rattle.std.proofs.Common.{◌≡◌, ◌∙◌, ℕ, ◌==◌, Bool, true, false, List, [], ◌∷◌, ◌++◌, Option, Some, None, is_some, arith, refl, ap, sym}
use Rattle.std.proofs.lemmas.Bool.Decides.{nat_tests}
use Rattle.nas_base.specs.Walking.{RowParts, Element, firsts, form_of, kept, value_of}
use Rattle.nas_base.specs.WalkLaws.{FirstsAreKept}

kept_same : (iei : ℕ) (value : Option (List ℕ)) (rest : List Element) → (value ≡ None → value_of iei rest ≡ None) → value_of iei (kept iei value rest) ≡ value
kept_same iei None rest h = h refl
kept_same iei (Some value) rest h = grind (arith, nat_tests)

kept_other : (iei row : ℕ) (value : Option (List ℕ)) (rest : List Element) → (iei == row) ≡ false → value_of iei (kept row value rest) ≡ value_of iei rest
kept_other iei row None rest is = refl
kept_other iei row (Some value) rest is = rw is refl

kept_by : (iei : ℕ) (row : RowParts) (rows : List RowParts) (es : List Element) (b : Bool) → (iei == row.iei) ≡ b →
    (value_of iei es ≡ None → value_of iei (firsts rows es) ≡ None) → (b ≡ false → value_of iei (firsts rows es) ≡ value_of iei es)
    → value_of iei (firsts (row ∷ rows) es) ≡ value_of iei es
kept_by iei row rows es true is none later =
    let same : iei ≡ row.iei = grind (arith, nat_tests) in
    ap (λ (r : ℕ). value_of iei (kept r (value_of r es) (firsts rows es))) (sym same) ∙ kept_same iei (value_of iei es) (firsts rows es) none
kept_by iei row rows es false is none later = kept_other iei row.iei (value_of row.iei es) (firsts rows es) is ∙ later refl

unfound : (iei : ℕ) (shape : List RowParts) (es : List Element) → value_of iei es ≡ None → value_of iei (firsts shape es) ≡ None
unfound iei [] es h = refl
unfound iei (row ∷ rows) es h =
    kept_by iei row rows es (iei == row.iei) refl (unfound iei rows es) (λ _. unfound iei rows es h ∙ sym h) ∙ h

turned : (a b : ℕ) (t : Bool) → (a == b) ≡ t → (b == a) ≡ t
turned a b true h = grind (arith, nat_tests)
turned a b false h = grind (arith, nat_tests)

form_later : (row : RowParts) (rows : List RowParts) (iei : ℕ) → (iei == row.iei) ≡ false → form_of (row ∷ rows) iei ≡ form_of rows iei
form_later row rows iei is = rw (turned iei row.iei false is) refl

listed : (shape : List RowParts) (es : List Element) (iei : ℕ) → is_some (form_of shape iei) ≡ true → value_of iei (firsts shape es) ≡ value_of iei es
listed [] es iei h = cc
listed (row ∷ rows) es iei h =
    kept_by iei row rows es (iei == row.iei) refl (unfound iei rows es)
    (λ other. listed rows es iei (ap is_some (sym (form_later row rows iei other)) ∙ h))

unlisted_by : (iei : ℕ) (row : RowParts) (rows : List RowParts) (es : List Element) (b : Bool) → (iei == row.iei) ≡ b → form_of (row ∷ rows) iei ≡ None
    → (form_of rows iei ≡ None → value_of iei (firsts rows es) ≡ None) → value_of iei (firsts (row ∷ rows) es) ≡ None
unlisted_by iei row rows es true is h later =
    let found : form_of (row ∷ rows) iei ≡ Some row.form = rw (turned iei row.iei true is) refl in
    cc
unlisted_by iei row rows es false is h later =
    kept_other iei row.iei (value_of row.iei es) (firsts rows es) is ∙ later (sym (form_later row rows iei is) ∙ h)

unlisted : (shape : List RowParts) (es : List Element) (iei : ℕ) → form_of shape iei ≡ None → value_of iei (firsts shape es) ≡ None
unlisted [] es iei h = refl
unlisted (row ∷ rows) es iei h = unlisted_by iei row rows es (iei == row.iei) refl h (unlisted rows es iei)

-- the front of a list has the first
front_by : (iei : ℕ) (e : Element) (es more : List Element) (b : Bool) → (iei == e.iei) ≡ b → is_some (value_of iei (e ∷ es)) ≡ true
    → (is_some (value_of iei es) ≡ true → value_of iei (es ++ more) ≡ value_of iei es) → value_of iei ((e ∷ es) ++ more) ≡ value_of iei (e ∷ es)
front_by iei e es more true is h later = rw is refl
front_by iei e es more false is h later = rw is (later (rw is at h))

front : (iei : ℕ) (es more : List Element) → is_some (value_of iei es) ≡ true → value_of iei (es ++ more) ≡ value_of iei es
front iei [] more h = cc
front iei (e ∷ es) more h = front_by iei e es more (iei == e.iei) refl h (front iei es more)

-- an element of another identifier is passed over
passed_by : (iei : ℕ) (first : Element) (xs ys : List Element) (b : Bool) → (iei == first.iei) ≡ b → value_of iei xs ≡ value_of iei ys →
    value_of iei (first ∷ xs) ≡ value_of iei (first ∷ ys)
passed_by iei first xs ys true is h = rw is refl
passed_by iei first xs ys false is h = rw is h

passed : (iei : ℕ) (before after : List Element) (e : Element) → (iei == e.iei) ≡ false → value_of iei (before ++ e ∷ after) ≡ value_of iei (before ++ after)
passed iei [] after e is = rw is refl
passed iei (first ∷ before) after e is =
    passed_by iei first (before ++ e ∷ after) (before ++ after) (iei == first.iei) refl (passed iei before after e is)

repeated_by : (iei : ℕ) (before after : List Element) (e : Element) (b : Bool) → (iei == e.iei) ≡ b → is_some (value_of e.iei before) ≡ true →
    value_of iei (before ++ e ∷ after) ≡ value_of iei (before ++ after)
repeated_by iei before after e true is h =
    let same : iei ≡ e.iei = grind (arith, nat_tests) in
    let there : is_some (value_of iei before) ≡ true = ap (λ (i : ℕ). is_some (value_of i before)) same ∙ h in
    front iei before (e ∷ after) there ∙ sym (front iei before after there)
repeated_by iei before after e false is h = passed iei before after e is

repeated : (shape : List RowParts) (before after : List Element) (e : Element) → is_some (value_of e.iei before) ≡ true →
    firsts shape (before ++ e ∷ after) ≡ firsts shape (before ++ after)
repeated [] before after e h = refl
repeated (row ∷ rows) before after e h =
    let value = repeated_by row.iei before after e (row.iei == e.iei) refl h in
    let rest = repeated rows before after e h in
    ap (λ (v : Option (List ℕ)). kept row.iei v (firsts rows (before ++ e ∷ after))) value
    ∙ ap (kept row.iei (value_of row.iei (before ++ after))) rest

pub firsts_are_kept : FirstsAreKept
firsts_are_kept = record { listed = listed; unlisted = unlisted; repeated = repeated }
