-- Octets behind those that are walked whole are walked after them.
use Rattle.std.proofs.Common.{◌≡◌, ◌∙◌, ℕ, zero, suc, ◌+◌, ◌≤◌, ◌==◌, nat_lt, nat_le, Bool, true, false, cond, List, [], ◌∷◌, ◌++◌, length, take, drop, Option, Some, None, arith, refl, ap, sym}
use Rattle.std.proofs.lemmas.Bool.Decides.{nat_tests}
use Rattle.std.proofs.lemmas.Grind.{common_steps}
use Rattle.std.proofs.lemmas.List.{length-append}
use Rattle.nas_base.proofs.WrittenLaws.{written_are_read}
use Rattle.nas_base.specs.declared.shape.Form.{Form}
use Rattle.nas_base.specs.declared.shape.Form.TheVariants.{Half, Fixed, Tlv, Tlve}
use Rattle.nas_base.specs.Walking.{Element, Head, RowParts, cut, elements_in, elements_within, form_in, head_as, head_of, headed, identifier_in, size_of, start_of}
use Rattle.nas_base.specs.WalkLaws.{AreRows}
use Rattle.nas_layout.specs.FirstElements.{ends_after, ends_within, is_walked_whole}

-- the size of an element that is there is told by its own octets
size_there : (form : Form) (octets more : List ℕ) → size_of form octets ≤ length octets → size_of form (octets ++ more) ≡ size_of form octets
size_there Half octets more there = refl
size_there (Fixed n) octets more there = refl
size_there Tlv [] more there = absurd (omega (arith, there))
size_there Tlv (a ∷ []) more there = absurd (omega (arith, there))
size_there Tlv (a ∷ b ∷ os) more there = refl
size_there Tlve [] more there = absurd (omega (arith, there))
size_there Tlve (a ∷ []) more there = absurd (omega (arith, there))
size_there Tlve (a ∷ b ∷ []) more there = absurd (omega (arith, there))
size_there Tlve (a ∷ b ∷ c ∷ os) more there = refl

take_front : (n : ℕ) (xs ys : List ℕ) → n ≤ length xs → take n (xs ++ ys) ≡ take n xs
take_front n xs ys there = grind (arith, common_steps)

drop_front : (n : ℕ) (xs ys : List ℕ) → n ≤ length xs → drop n (xs ++ ys) ≡ drop n xs ++ ys
drop_front n xs ys there = grind (arith, common_steps)

-- the same head, with more behind it
abbrev and_more : Head → List ℕ → Head
and_more h more = record { iei = h.iei; value = h.value; behind = h.behind ++ more }

abbrev cut_as : ℕ → ℕ → ℕ → List ℕ → Option Head
cut_as iei start size octets = Some (record { iei = iei; value = drop start (take size octets); behind = drop size octets })

cut_there : (iei start size : ℕ) (octets more : List ℕ) → size ≤ length octets → cut_as iei start size (octets ++ more)
    ≡ Some (record { iei = iei; value = drop start (take size octets); behind = drop size octets ++ more })
cut_there iei start size octets more there =
    ap (λ (xs : List ℕ). Some (record { iei = iei; value = drop start xs; behind = drop size (octets ++ more) })) (take_front size octets more there)
    ∙ ap (λ (xs : List ℕ). Some (record { iei = iei; value = drop start (take size octets); behind = xs })) (drop_front size octets more there)

same_head : (a b : Head) (more : List ℕ) → Some a ≡ Some b → Some (and_more a more) ≡ Some (and_more b more)
same_head a b more h = let same : a ≡ b = cc in ap (λ (g : Head). Some (and_more g more)) same

fits_more : (size : ℕ) (octets more : List ℕ) → size ≤ length octets → nat_le size (length (octets ++ more)) ≡ true
fits_more size octets more there =
    let all : length (octets ++ more) ≡ length octets + length more = simp length-append in
    grind (arith, nat_tests)

cut_by : (iei start size : ℕ) (octets more : List ℕ) (h : Head) (b : Bool) → nat_le size (length octets) ≡ b → cond b (cut_as iei start size octets) None ≡ Some h
    → cond (nat_le size (length (octets ++ more))) (cut_as iei start size (octets ++ more)) None ≡ Some (and_more h more)
cut_by iei start size octets more h false is e = cc
cut_by iei start size octets more h true is e =
    let there : size ≤ length octets = grind (arith, nat_tests) in
    ap (λ (t : Bool). cond t (cut_as iei start size (octets ++ more)) None) (fits_more size octets more there)
    ∙ cut_there iei start size octets more there
    ∙ same_head (record { iei = iei; value = drop start (take size octets); behind = drop size octets }) h more e

sized : (iei : ℕ) (form : Form) (octets : List ℕ) (h : Head) (b : Bool) → nat_le (size_of form octets) (length octets) ≡ b
    → cond b (cut_as iei (start_of form) (size_of form octets) octets) None ≡ Some h → size_of form octets ≤ length octets
sized iei form octets h false is e = cc
sized iei form octets h true is e = grind (arith, nat_tests)

cut_more : (iei : ℕ) (form : Form) (octets more : List ℕ) (h : Head) → cut iei form octets ≡ Some h → cut iei form (octets ++ more) ≡ Some (and_more h more)
cut_more iei form octets more h e =
    let there = sized iei form octets h (nat_le (size_of form octets) (length octets)) refl e in
    ap (λ (n : ℕ). cond (nat_le n (length (octets ++ more))) (cut_as iei (start_of form) n (octets ++ more)) None) (size_there form octets more there)
    ∙ cut_by iei (start_of form) (size_of form octets) octets more h (nat_le (size_of form octets) (length octets)) refl e

head_there : (shape : List RowParts) (o : ℕ) (os : List ℕ) → head_of shape (o ∷ os) ≡ head_as shape (identifier_in shape o) (o ∷ os)
head_there shape o os = let there : nat_lt 0 (length (o ∷ os)) ≡ true = grind (arith, nat_tests) in rw there refl

head_more : (shape : List RowParts) (octets more : List ℕ) (h : Head) → head_of shape octets ≡ Some h → head_of shape (octets ++ more) ≡ Some (and_more h more)
head_more shape [] more h e = cc
head_more shape (o ∷ os) more h e =
    head_there shape o (os ++ more)
    ∙ cut_more (identifier_in shape o) (form_in shape (identifier_in shape o)) (o ∷ os) more h (sym (head_there shape o os) ∙ e)

none_left : (octets : List ℕ) → (length octets == 0) ≡ true → octets ≡ []
none_left [] h = refl
none_left (o ∷ os) h = absurd (grind (arith, nat_tests))

walked_by : (n : ℕ) (shape : List RowParts) (octets more : List ℕ) (o : Option Head) → AreRows shape → head_of shape octets ≡ o
    → ends_after (ends_within n shape) octets o ≡ true
    → ((rest : List ℕ) → ends_within n shape rest ≡ true → elements_in shape (rest ++ more) ≡ elements_within n shape rest ++ elements_in shape more)
    → elements_in shape (octets ++ more) ≡ headed (elements_within n shape) o ++ elements_in shape more
walked_by n shape octets more None rows is ends later = ap (λ (os : List ℕ). elements_in shape (os ++ more)) (none_left octets ends)
walked_by n shape octets more (Some h) rows is ends later =
    written_are_read.step shape (octets ++ more) rows ∙ ap (headed (elements_in shape)) (head_more shape octets more h is)
    ∙ ap (λ (es : List Element). record { iei = h.iei; value = h.value } ∷ es) (later h.behind ends)

walked_within : (n : ℕ) (shape : List RowParts) (octets more : List ℕ) → AreRows shape → ends_within n shape octets ≡ true →
    elements_in shape (octets ++ more) ≡ elements_within n shape octets ++ elements_in shape more
walked_within zero shape octets more rows ends = ap (λ (os : List ℕ). elements_in shape (os ++ more)) (none_left octets ends)
walked_within (suc n) shape octets more rows ends =
    walked_by n shape octets more (head_of shape octets) rows refl ends (λ rest. walked_within n shape rest more rows)

pub walked_more : (shape : List RowParts) (octets more : List ℕ) → AreRows shape → is_walked_whole shape octets ≡ true →
    elements_in shape (octets ++ more) ≡ elements_in shape octets ++ elements_in shape more
walked_more shape octets more rows ends = walked_within (length octets) shape octets more rows ends
