-- Elements are read where they were written.
use Rattle.std.proofs.Common.{◌≡◌, ◌∙◌, ℕ, zero, suc, ◌+◌, ◌*◌, ◌^◌, ◌<◌, ◌≤◌, ◌==◌, nat_lt, nat_le, Bool, true, false, cond, List, [], ◌∷◌, ◌++◌, length, take, drop, ◌/◌, ◌%◌, Option, Some, None, arith, refl, ap, sym}
use Rattle.std.proofs.lemmas.Bool.Decides.{nat_tests}
use Rattle.std.proofs.lemmas.Grind.{common_steps}
use Rattle.std.proofs.lemmas.List.{length-append}
use Rattle.std.specs.Prelude.{slice_index}
use Rattle.nas_base.specs.declared.shape.Form.{Form}
use Rattle.nas_base.specs.declared.shape.Form.TheVariants.{Half, Fixed, Tlv, Tlve}
use Rattle.nas_base.specs.Walking.{RowParts, Element, Head, cut, elements_in, elements_within, form_in, form_of, form_or, head_as, head_of, headed, identifier_in, is_row, size_of, start_of, unknown_form}
use Rattle.nas_base.specs.WalkLaws.{AreRows, WrittenAreRead}
use Rattle.nas_base.specs.Writing.{lve, tlv}

-- no element is empty
sized_row : (iei : ℕ) (form : Form) (octets : List ℕ) → is_row iei form ≡ true → 1 ≤ size_of form octets
sized_row iei Half octets h = omega arith
sized_row iei (Fixed n) octets h = grind (arith, nat_tests)
sized_row iei Tlv octets h = omega arith
sized_row iei Tlve octets h = omega arith

sized_by : (row : RowParts) (rows : List RowParts) (iei : ℕ) (otherwise : Form) (octets : List ℕ) (b : Bool) → (row.iei == iei) ≡ b → AreRows (row ∷ rows)
    → (AreRows rows → 1 ≤ size_of (form_or (form_of rows iei) otherwise) octets) → 1 ≤ size_of (form_or (form_of (row ∷ rows) iei) otherwise) octets
sized_by row rows iei otherwise octets true is h later = rw is (sized_row row.iei row.form octets (grind (arith, nat_tests)))
sized_by row rows iei otherwise octets false is h later = rw is (later (grind (arith, nat_tests)))

sized_or : (shape : List RowParts) (iei : ℕ) (otherwise : Form) (octets : List ℕ) → AreRows shape → 1 ≤ size_of otherwise octets →
    1 ≤ size_of (form_or (form_of shape iei) otherwise) octets
sized_or [] iei otherwise octets rows h = h
sized_or (row ∷ rest) iei otherwise octets rows h =
    sized_by row rest iei otherwise octets (row.iei == iei) refl rows (λ r. sized_or rest iei otherwise octets r h)

sized_unknown : (a b : Bool) (octets : List ℕ) → 1 ≤ size_of (cond a (Fixed 1) (cond b Tlve Tlv)) octets
sized_unknown true b octets = omega arith
sized_unknown false true octets = omega arith
sized_unknown false false octets = omega arith

sized : (shape : List RowParts) (iei : ℕ) (octets : List ℕ) → AreRows shape → 1 ≤ size_of (form_in shape iei) octets
sized shape iei octets rows = sized_or shape iei (unknown_form iei) octets rows (sized_unknown (nat_le 0x80 iei) (nat_le 0x70 iei) octets)

-- the octets behind an element are fewer
shorter_by : (size : ℕ) (iei : ℕ) (value octets : List ℕ) (h : Head) (b : Bool) → 1 ≤ size → nat_le size (length octets) ≡ b → 0 < length octets
    → cond b (Some (record { iei = iei; value = value; behind = drop size octets })) None ≡ Some h → length h.behind < length octets
shorter_by size iei value octets h true some is there e =
    let same : drop size octets ≡ h.behind = cc in
    rw (← same) (grind (arith, common_steps))
shorter_by size iei value octets h false some is there e = cc

shorter_if : (shape : List RowParts) (octets : List ℕ) (h : Head) (b : Bool) → AreRows shape → nat_lt 0 (length octets) ≡ b →
    cond b (head_as shape (identifier_in shape (slice_index octets 0)) octets) None ≡ Some h → length h.behind < length octets
shorter_if shape octets h true rows is e =
    let iei : ℕ = identifier_in shape (slice_index octets 0) in
    shorter_by (size_of (form_in shape iei) octets) iei (drop (start_of (form_in shape iei)) (take (size_of (form_in shape iei) octets) octets)) octets h
    (nat_le (size_of (form_in shape iei) octets) (length octets)) (sized shape iei octets rows) refl (grind (arith, nat_tests)) e
shorter_if shape octets h false rows is e = cc

shorter : (shape : List RowParts) (octets : List ℕ) (h : Head) → AreRows shape → head_of shape octets ≡ Some h → length h.behind < length octets
shorter shape octets h rows e = shorter_if shape octets h (nat_lt 0 (length octets)) rows refl e

-- the number of octets is fuel enough
headed_same : (f g : List ℕ → List Element) (o : Option Head) → ((h : Head) → o ≡ Some h → f h.behind ≡ g h.behind) → headed f o ≡ headed g o
headed_same f g None same = refl
headed_same f g (Some h) same = ap (λ (es : List Element). record { iei = h.iei; value = h.value } ∷ es) (same h refl)

no_head : (shape : List RowParts) (octets : List ℕ) → length octets ≤ 0 → head_of shape octets ≡ None
no_head shape octets h = let none : nat_lt 0 (length octets) ≡ false = grind (arith, nat_tests) in rw none refl

enough : (n m : ℕ) (shape : List RowParts) (octets : List ℕ) → AreRows shape → length octets ≤ n → length octets ≤ m →
    elements_within n shape octets ≡ elements_within m shape octets
enough zero zero shape octets rows a b = refl
enough zero (suc m) shape octets rows a b = sym (ap (headed (elements_within m shape)) (no_head shape octets a))
enough (suc n) zero shape octets rows a b = ap (headed (elements_within n shape)) (no_head shape octets b)
enough (suc n) (suc m) shape octets rows a b =
    headed_same (elements_within n shape) (elements_within m shape) (head_of shape octets)
    (λ h e. let less : length h.behind < length octets = shorter shape octets h rows e in enough n m shape h.behind rows (omega arith) (omega arith))

step : (shape : List RowParts) (octets : List ℕ) → AreRows shape → elements_in shape octets ≡ headed (elements_in shape) (head_of shape octets)
step shape [] rows = refl
step shape (o ∷ os) rows =
    headed_same (elements_within (length os) shape) (elements_in shape) (head_of shape (o ∷ os))
    (λ h e.
    let less : length h.behind < length (o ∷ os) = shorter shape (o ∷ os) h rows e in
    enough (length os) (length h.behind) shape h.behind rows (omega arith) (omega arith))

read : (shape : List RowParts) (octets : List ℕ) (h : Head) → AreRows shape → head_of shape octets ≡ Some h →
    elements_in shape octets ≡ record { iei = h.iei; value = h.value } ∷ elements_in shape h.behind
read shape octets h rows e = step shape octets rows ∙ ap (headed (elements_in shape)) e

-- the element that begins some octets, by its form
cut_whole : (iei : ℕ) (form : Form) (octets : List ℕ) → size_of form octets ≤ length octets → cut iei form octets
    ≡ Some (record { iei = iei; value = drop (start_of form) (take (size_of form octets) octets); behind = drop (size_of form octets) octets })
cut_whole iei form octets h = let fits : nat_le (size_of form octets) (length octets) ≡ true = grind (arith, nat_tests) in rw fits refl

head_there : (shape : List RowParts) (o : ℕ) (os : List ℕ) → head_of shape (o ∷ os) ≡ head_as shape (identifier_in shape o) (o ∷ os)
head_there shape o os = let there : nat_lt 0 (length (o ∷ os)) ≡ true = grind (arith, nat_tests) in rw there refl

head_whole : (shape : List RowParts) (o iei : ℕ) (os : List ℕ) (form : Form) (value behind : List ℕ) → identifier_in shape o ≡ iei → form_in shape iei ≡ form →
    size_of form (o ∷ os) ≤ length (o ∷ os) → drop (start_of form) (take (size_of form (o ∷ os)) (o ∷ os)) ≡ value → drop (size_of form (o ∷ os)) (o ∷ os) ≡ behind
    → head_of shape (o ∷ os) ≡ Some (record { iei = iei; value = value; behind = behind })
head_whole shape o iei os form value behind id is fits v r =
    head_there shape o os
    ∙ ap (λ (i : ℕ). head_as shape i (o ∷ os)) id ∙ ap (λ (f : Form). cut iei f (o ∷ os)) is ∙ cut_whole iei form (o ∷ os) fits
    ∙ ap (λ (x : List ℕ). Some (record { iei = iei; value = x; behind = drop (size_of form (o ∷ os)) (o ∷ os) })) v
    ∙ ap (λ (x : List ℕ). Some (record { iei = iei; value = value; behind = x })) r

take_all : (xs ys : List ℕ) → take (length xs) (xs ++ ys) ≡ xs
take_all xs ys = grind (arith, common_steps)

drop_all : (xs ys : List ℕ) → drop (length xs) (xs ++ ys) ≡ ys
drop_all xs ys = grind (arith, common_steps)

half : (shape : List RowParts) (octet : ℕ) (rest : List ℕ) → AreRows shape → form_in shape (identifier_in shape octet) ≡ Half →
    elements_in shape (octet ∷ rest) ≡ record { iei = identifier_in shape octet; value = octet ∷ [] } ∷ elements_in shape rest
half shape octet rest rows is =
    read shape (octet ∷ rest) (record { iei = identifier_in shape octet; value = octet ∷ []; behind = rest }) rows
    (head_whole shape octet (identifier_in shape octet) rest Half (octet ∷ []) rest refl is (omega arith) refl refl)

fixed : (shape : List RowParts) (n iei : ℕ) (value rest : List ℕ) → AreRows shape → identifier_in shape iei ≡ iei → form_in shape iei ≡ Fixed n →
    length value + 1 ≡ n → elements_in shape ((iei ∷ value) ++ rest) ≡ record { iei = iei; value = value } ∷ elements_in shape rest
fixed shape n iei value rest rows id is size =
    let long : n ≡ suc (length value) = omega arith in
    let all : length (value ++ rest) ≡ length value + length rest = simp length-append in
    read shape (iei ∷ (value ++ rest)) (record { iei = iei; value = value; behind = rest }) rows
    (head_whole shape iei iei (value ++ rest) (Fixed n) value rest id is (omega arith)
    (ap (λ (k : ℕ). drop 1 (take k (iei ∷ (value ++ rest)))) long ∙ take_all value rest)
    (ap (λ (k : ℕ). drop k (iei ∷ (value ++ rest))) long ∙ drop_all value rest))

short : (shape : List RowParts) (iei : ℕ) (value rest : List ℕ) → AreRows shape → identifier_in shape iei ≡ iei → form_in shape iei ≡ Tlv →
    elements_in shape (tlv iei value ++ rest) ≡ record { iei = iei; value = value } ∷ elements_in shape rest
short shape iei value rest rows id is =
    let long : 2 + length value ≡ suc (suc (length value)) = omega arith in
    let all : length (value ++ rest) ≡ length value + length rest = simp length-append in
    let octets : List ℕ = iei ∷ length value ∷ (value ++ rest) in
    read shape octets (record { iei = iei; value = value; behind = rest }) rows
    (head_whole shape iei iei (length value ∷ (value ++ rest)) Tlv value rest id is (omega arith)
    (ap (λ (k : ℕ). drop 2 (take k octets)) long ∙ take_all value rest)
    (ap (λ (k : ℕ). drop k octets) long ∙ drop_all value rest))

long_size : (n : ℕ) → n < 2 ^ 16 → 3 + (256 * (n / 256 % 256) + n % 256) ≡ suc (suc (suc n))
long_size n h = omega arith

long : (shape : List RowParts) (iei : ℕ) (value rest : List ℕ) → AreRows shape → identifier_in shape iei ≡ iei → form_in shape iei ≡ Tlve →
    length value < 2 ^ 16 → elements_in shape ((iei ∷ lve value) ++ rest) ≡ record { iei = iei; value = value } ∷ elements_in shape rest
long shape iei value rest rows id is limit =
    let size = long_size (length value) limit in
    let all : length (value ++ rest) ≡ length value + length rest = simp length-append in
    let behind : List ℕ = length value / 256 % 256 ∷ length value % 256 ∷ (value ++ rest) in
    read shape (iei ∷ behind) (record { iei = iei; value = value; behind = rest }) rows
    (head_whole shape iei iei behind Tlve value rest id is (omega arith)
    (ap (λ (k : ℕ). drop 3 (take k (iei ∷ behind))) size ∙ take_all value rest)
    (ap (λ (k : ℕ). drop k (iei ∷ behind)) size ∙ drop_all value rest))

pub written_are_read : WrittenAreRead
written_are_read = record { step = step; half = half; fixed = fixed; short = short; long = long }
