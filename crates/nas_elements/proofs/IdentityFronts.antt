-- Where octets stop being the front of an identity's.
use Rattle.std.proofs.Common.{◌≡◌, ◌≤◌, ◌<◌, ◌+◌, ◌-◌, ◌%◌, ◌&&◌, ◌==◌, ℕ, Bool, true, false, min, max, nat_le, List, [], ◌∷◌, ◌++◌, length, take, drop, slice_index, Option, Some, None, option_map, is_some, if◌then◌else◌, arith, refl, sym, ap, ◌∙◌, subst}
use Rattle.std.proofs.lemmas.Bool.Decides.{nat_tests}
use Rattle.std.proofs.lemmas.Grind.{common_steps}
use Rattle.std.proofs.Math.ListN.{replicate}
use Rattle.std.proofs.lemmas.List.{append_assoc, get_or-append_right, get_or-replicate, length-replicate, take-append-drop, take-take}
use Rattle.nas_elements.specs.Guti.{guti_in, stmsi_in, type_of_identity}
use Rattle.nas_elements.specs.Identity.{identity_in}
use Rattle.nas_elements.specs.Other.{is_kept, is_other}
use Rattle.nas_elements.specs.Reads.{IsWrongAt, StartsAValue}
use Rattle.nas_elements.specs.Suci.{SuciParts, is_null_scheme, suci_in}
use Rattle.nas_elements.specs.declared.guti.Guti.{Guti}
use Rattle.nas_elements.specs.declared.guti.Stmsi.{Stmsi}
use Rattle.nas_elements.specs.declared.identity.Identity.TheVariants.{Suci, Guti as GutiIdentity, Stmsi as StmsiIdentity, Other}
use Rattle.nas_elements.proofs.LayoutFronts.{has_value}
use Rattle.nas_elements.proofs.Sized.{nothing, starts_whole}

-- A reading that is the other one where octets begin as these do, and has what the other has, stops at the same place.
pub same_place : {A B : Type 0} (inner : List ℕ → Option A) (outer : List ℕ → Option B) (octets : List ℕ) (at : ℕ)
    → ((os : List ℕ) → is_some (inner os) ≡ true → is_some (outer os) ≡ true)
    → ((rest : List ℕ) → is_some (outer (take (at + 1) octets ++ rest)) ≡ true → is_some (inner (take (at + 1) octets ++ rest)) ≡ true)
    → IsWrongAt inner octets at → IsWrongAt outer octets at
same_place {A} {B} inner outer octets at up down wrong = record {
  within = wrong.within;
  before = starts_whole outer (take at octets) wrong.before.rest (up (take at octets ++ wrong.before.rest) (has_value wrong.before.whole));
  here = λ some starts. wrong.here some (starts_whole inner (take (at + 1) octets) starts.rest (down starts.rest (has_value starts.whole)));
}

pub some-map : {A B : Type 0} (f : A → B) (m : Option A) → is_some (option_map f m) ≡ is_some m
some-map f None = refl
some-map f (Some x) = refl

pub test_holds : {A : Type 0} (b : Bool) (m : Option A) → is_some (if b then m else None) ≡ true → b ≡ true
test_holds true m h = refl
test_holds false m h = grind (arith, h)

pub second : {A : Type 0} (o s : Bool) (a b c : A) → o ≡ false → s ≡ true → (if o then a else (if s then b else c)) ≡ b
second o s a b c ho hs = rw (ho, hs) refl

pub third : {A : Type 0} (o s g : Bool) (a b c d : A) → o ≡ false → s ≡ false → g ≡ true
    → (if o then a else (if s then b else (if g then c else d))) ≡ c
third o s g a b c d ho hs hg = rw (ho, hs, hg) refl

pub fourth : {A : Type 0} (o s g : Bool) (a b c d : A) → o ≡ false → s ≡ false → g ≡ false
    → (if o then a else (if s then b else (if g then c else d))) ≡ d
fourth o s g a b c d ho hs hg = rw (ho, hs, hg) refl

pub not_other : (octets : List ℕ) → is_kept octets ≡ false → is_other octets ≡ false
not_other octets h = grind (arith, h)

pub is_other_some : (octets : List ℕ) → is_other octets ≡ true → is_some (identity_in octets) ≡ true
unfolding identity_in
is_other_some octets h = rw h refl

-- what tells which identity it is
abbrev pub first : List ℕ → ℕ
first octets = slice_index octets 0

pub is_suci_first : (octets : List ℕ) → is_kept octets ≡ false → first octets ≡ 0x01 → identity_in octets ≡ option_map (λ s. Suci s) (suci_in octets)
unfolding identity_in
is_suci_first octets kept one = second (is_other octets) (first octets == 0x01) _ _ _ (not_other octets kept) (grind (arith, nat_tests, one))

pub kept_guti : (octets : List ℕ) → type_of_identity octets ≡ 2 → is_kept octets ≡ false
kept_guti octets h = grind (arith, nat_tests, h)

pub kept_stmsi : (octets : List ℕ) → type_of_identity octets ≡ 4 → is_kept octets ≡ false
kept_stmsi octets h = grind (arith, nat_tests, h)

pub is_guti : (octets : List ℕ) → type_of_identity octets ≡ 2 → identity_in octets ≡ option_map (λ g. GutiIdentity g) (guti_in octets)
unfolding identity_in
is_guti octets h = third (is_other octets) (first octets == 0x01) (type_of_identity octets == 2) _ _ _ _ (not_other octets (kept_guti octets h))
    (grind (arith, nat_tests, h)) (grind (arith, nat_tests, h))

pub is_stmsi : (octets : List ℕ) → type_of_identity octets ≡ 4 → identity_in octets ≡ option_map (λ s. StmsiIdentity s) (stmsi_in octets)
unfolding identity_in
is_stmsi octets h = fourth (is_other octets) (first octets == 0x01) (type_of_identity octets == 2) _ _ _ _ (not_other octets (kept_stmsi octets h))
    (grind (arith, nat_tests, h)) (grind (arith, nat_tests, h))

pub guti_kind : (octets : List ℕ) → is_some (guti_in octets) ≡ true → type_of_identity octets ≡ 2
guti_kind octets h = let b = test_holds (length octets == 11 && type_of_identity octets == 2) _ h in grind (arith, nat_tests, b)

pub stmsi_kind : (octets : List ℕ) → is_some (stmsi_in octets) ≡ true → type_of_identity octets ≡ 4
stmsi_kind octets h = let b = test_holds (length octets == 7 && type_of_identity octets == 4) _ h in grind (arith, nat_tests, b)

pub suci_first : (octets : List ℕ) → is_some (suci_in octets) ≡ true → (first octets ≡ 0x01) × (slice_index octets 6 ≡ 0)
suci_first octets h = let b = test_holds (is_null_scheme octets) _ h in (grind (arith, nat_tests, b), grind (arith, nat_tests, b))

-- the first octet, and the scheme, of octets that go on otherwise
pub same_octet : (octets rest : List ℕ) (i n : ℕ) → i < length octets → i < n → slice_index (take n octets ++ rest) i ≡ slice_index octets i
same_octet octets rest i n some more = grind (arith, common_steps)

pub wrong_as_guti : (octets : List ℕ) (at : ℕ) → type_of_identity octets ≡ 2 → 0 < length octets
    → (guti_in octets ≡ None) × IsWrongAt guti_in octets at → (identity_in octets ≡ None) × IsWrongAt identity_in octets at
wrong_as_guti octets at kind some wrong = (
  is_guti octets kind ∙ ap (option_map (λ g. GutiIdentity g)) wrong.0,
  same_place guti_in identity_in octets at
      (λ os h. rw (is_guti os (guti_kind os h), some-map (λ g. GutiIdentity g) (guti_in os)) h)
      (λ rest h. let kinds = ap (λ o. o % 8) (same_octet octets rest 0 (at + 1) some (omega arith)) ∙ kind in
      sym (some-map (λ g. GutiIdentity g) (guti_in (take (at + 1) octets ++ rest))) ∙ sym (ap is_some (is_guti (take (at + 1) octets ++ rest) kinds)) ∙ h)
      wrong.1,
)

pub wrong_as_stmsi : (octets : List ℕ) (at : ℕ) → type_of_identity octets ≡ 4 → 0 < length octets
    → (stmsi_in octets ≡ None) × IsWrongAt stmsi_in octets at → (identity_in octets ≡ None) × IsWrongAt identity_in octets at
wrong_as_stmsi octets at kind some wrong = (
  is_stmsi octets kind ∙ ap (option_map (λ s. StmsiIdentity s)) wrong.0,
  same_place stmsi_in identity_in octets at
      (λ os h. rw (is_stmsi os (stmsi_kind os h), some-map (λ s. StmsiIdentity s) (stmsi_in os)) h)
      (λ rest h. let kinds = ap (λ o. o % 8) (same_octet octets rest 0 (at + 1) some (omega arith)) ∙ kind in
      sym (some-map (λ s. StmsiIdentity s) (stmsi_in (take (at + 1) octets ++ rest))) ∙ sym (ap is_some (is_stmsi (take (at + 1) octets ++ rest) kinds)) ∙ h)
      wrong.1,
)

pub starts_shorter : {A : Type 0} (reading : List ℕ → Option A) (p q : List ℕ) → StartsAValue reading (p ++ q) → StartsAValue reading p
starts_shorter {A} reading p q starts = record { rest = q ++ starts.rest; value = starts.value; whole = ap reading (sym (append_assoc p q starts.rest)) ∙ starts.whole }

pub front_of : (octets : List ℕ) (m n : ℕ) → m ≤ n → take m octets ++ drop m (take n octets) ≡ take n octets
front_of octets m n few = ap (λ l. l ++ drop m (take n octets)) (sym (take-take m n octets few)) ∙ take-append-drop m (take n octets)

-- octets up to the scheme can go on as those of another scheme
pub of_another_scheme : (octets : List ℕ) → length octets ≡ 7 → first octets ≡ 0x01 → slice_index octets 6 ≡ 1 → is_other octets ≡ true
of_another_scheme octets seven one scheme = grind (arith, nat_tests, seven, one, scheme)

pub ones : (octets : List ℕ) (at : ℕ) → at ≤ 6 → at ≤ length octets → slice_index (take at octets ++ replicate (7 - at) 1) 6 ≡ 1
ones octets at few within = get_or-append_right (take at octets) (replicate (7 - at) 1) at 6 0 (grind (arith, common_steps)) few
    ∙ get_or-replicate (7 - at) (6 - at) 1 0 (omega arith)

pub other_follows : (octets : List ℕ) (at : ℕ) → first octets ≡ 0x01 → 0 < at → at ≤ 6 → at ≤ length octets → StartsAValue identity_in (take at octets)
other_follows octets at one some few within = starts_whole identity_in (take at octets) (replicate (7 - at) 1)
    (is_other_some (take at octets ++ replicate (7 - at) 1) (of_another_scheme (take at octets ++ replicate (7 - at) 1)
    (grind (arith, common_steps, length-replicate)) (same_octet octets (replicate (7 - at) 1) 0 at (omega arith) some ∙ one) (ones octets at few within)))

pub suci_up : (octets : List ℕ) → is_some (suci_in octets) ≡ true → is_some (identity_in octets) ≡ true
suci_up octets h = let b = suci_first octets h in
    rw (is_suci_first octets (grind (arith, nat_tests, b.0, b.1)) b.0, some-map (λ s. Suci s) (suci_in octets)) h

pub null_scheme_follows : (octets : List ℕ) → first octets ≡ 0x01 → slice_index octets 6 ≡ 0 → is_kept octets ≡ false
null_scheme_follows octets one scheme = grind (arith, nat_tests, one, scheme)

pub scheme_is_null : (octets : List ℕ) → first octets ≡ 0x01 → 7 ≤ length octets → is_kept octets ≡ false → slice_index octets 6 ≡ 0
scheme_is_null octets one many kept = grind (arith, nat_tests, one, many, kept)

pub starts_before : (octets : List ℕ) (at place : ℕ) → first octets ≡ 0x01 → is_kept octets ≡ false → at ≤ place → 6 ≤ place → place < length octets
    → StartsAValue identity_in (take (place + 1) octets) → StartsAValue suci_in (take (at + 1) octets)
starts_before octets at place one kept before scheme some starts =
    let o = same_octet octets starts.rest 0 (place + 1) (omega arith) (omega arith) ∙ one in
    let s = same_octet octets starts.rest 6 (place + 1) (omega arith) (omega arith) ∙ scheme_is_null octets one (omega arith) kept in
    let eq = is_suci_first (take (place + 1) octets ++ starts.rest) (null_scheme_follows (take (place + 1) octets ++ starts.rest) o s) o in
    let found = sym (some-map (λ s. Suci s) (suci_in (take (place + 1) octets ++ starts.rest))) ∙ sym (ap is_some eq) ∙ has_value starts.whole in
    starts_shorter suci_in (take (at + 1) octets) (drop (at + 1) (take (place + 1) octets))
    (subst (λ l. StartsAValue suci_in l) (sym (front_of octets (at + 1) (place + 1) (omega arith)))
    (starts_whole suci_in (take (place + 1) octets) starts.rest found))

pub wrong_as_suci : (octets : List ℕ) (at : ℕ) → first octets ≡ 0x01 → 0 < length octets → is_kept octets ≡ false
    → (suci_in octets ≡ None) × IsWrongAt suci_in octets at
    → (identity_in octets ≡ None) × IsWrongAt identity_in octets (max at (min (length octets) 6))
wrong_as_suci octets at one some kept wrong = (
  is_suci_first octets kept one ∙ ap (option_map (λ s. Suci s)) wrong.0,
  record {
    within = let w = wrong.1.within in omega arith;
    before = go (nat_le at (min (length octets) 6)) refl;
    here = λ more starts. wrong.1.here (omega arith) (suci_starts more starts);
  },
) where
  go : (b : Bool) → nat_le at (min (length octets) 6) ≡ b → StartsAValue identity_in (take (max at (min (length octets) 6)) octets)
  go true h = other_follows octets (max at (min (length octets) 6)) one (grind (arith, nat_tests, h, some)) (grind (arith, nat_tests, h)) (grind (arith, nat_tests, h))
  go false h = let eq : max at (min (length octets) 6) ≡ at = grind (arith, nat_tests, h) in
      subst (λ n. StartsAValue identity_in (take n octets)) (sym eq)
      (starts_whole identity_in (take at octets) wrong.1.before.rest (suci_up (take at octets ++ wrong.1.before.rest) (has_value wrong.1.before.whole)))

  suci_starts : max at (min (length octets) 6) < length octets → StartsAValue identity_in (take (max at (min (length octets) 6) + 1) octets)
      → StartsAValue suci_in (take (at + 1) octets)
  suci_starts more starts = starts_before octets at (max at (min (length octets) 6)) one kept (omega arith) (omega arith) more starts

-- more octets than are kept
pub test_fails : {A : Type 0} (b : Bool) (m : Option A) → b ≡ false → is_some (if b then m else None) ≡ false
test_fails b m h = rw h refl

pub no_value : {A : Type 0} (m : Option A) → is_some m ≡ false → m ≡ None
no_value None h = refl
no_value (Some x) h = grind (arith, h)

pub long_not_other : (octets : List ℕ) → 4100 < length octets → is_other octets ≡ false
long_not_other octets many = grind (arith, nat_tests, many)

pub none_long : (octets : List ℕ) → is_kept octets ≡ true → 4100 < length octets → is_some (identity_in octets) ≡ false
unfolding identity_in
none_long octets kept many = go (first octets == 0x01) refl where
  go : (b : Bool) → (first octets == 0x01) ≡ b → is_some (identity_in octets) ≡ false
  go true h = ap is_some (second (is_other octets) (first octets == 0x01) _ _ _ (long_not_other octets many) h)
      ∙ some-map (λ s. Suci s) (suci_in octets) ∙ test_fails (is_null_scheme octets) _ (grind (arith, nat_tests, kept, h))
  go false h = ap is_some (fourth (is_other octets) (first octets == 0x01) (type_of_identity octets == 2) _ _ _ _ (long_not_other octets many) h
      (grind (arith, nat_tests, kept, h)))
      ∙ some-map (λ s. StmsiIdentity s) (stmsi_in octets) ∙ test_fails (length octets == 7 && type_of_identity octets == 4) _ (grind (arith, nat_tests, kept, h))

pub kept_too : (octets rest : List ℕ) (n : ℕ) → 7 ≤ n → 7 ≤ length octets → is_kept octets ≡ true → is_kept (take n octets ++ rest) ≡ true
kept_too octets rest n more many kept = alike octets (take n octets ++ rest) (same_octet octets rest 0 n (omega arith) (omega arith))
    (same_octet octets rest 6 n (omega arith) (omega arith)) many (grind (arith, common_steps)) kept where
      alike : (one other : List ℕ) → first other ≡ first one → slice_index other 6 ≡ slice_index one 6 → 7 ≤ length one → 7 ≤ length other
          → is_kept one ≡ true → is_kept other ≡ true
      alike one other same scheme many more kept = grind (arith, nat_tests, same, scheme, many, more, kept)

pub length_front : (octets rest : List ℕ) (n : ℕ) → n ≤ length octets → length (take n octets ++ rest) ≡ n + length rest
length_front octets rest n within = grind (arith, common_steps)

pub within_limit : (octets : List ℕ) (n : ℕ) → is_kept octets ≡ true → length octets ≡ n → 1 ≤ n → n ≤ 4100 → is_other octets ≡ true
within_limit octets n kept limit some few = grind (arith, nat_tests, kept, limit, some, few)

pub wrong_long : (octets : List ℕ) → is_kept octets ≡ true → 4100 < length octets → (identity_in octets ≡ None) × IsWrongAt identity_in octets 4100
wrong_long octets kept many = (
  no_value (identity_in octets) (none_long octets kept many),
  record {
    within = omega arith;
    before = starts_whole identity_in (take 4100 octets) [] (is_other_some (take 4100 octets ++ [])
        (within_limit (take 4100 octets ++ []) 4100 (kept_too octets [] 4100 (omega arith) (omega arith) kept)
        (length_front octets [] 4100 (omega arith)) (omega arith) (omega arith)));
    here = λ some starts. let n = length_front octets starts.rest 4101 (omega arith) in
        nothing starts.whole (none_long (take 4101 octets ++ starts.rest)
        (kept_too octets starts.rest 4101 (omega arith) (omega arith) kept) (omega arith));
  },
)

pub wrong_empty : (octets : List ℕ) → length octets < 1 → (identity_in octets ≡ None) × IsWrongAt identity_in octets 0
unfolding identity_in
wrong_empty [] none = (refl, record { within = omega arith; before = record { rest = 0 ∷ []; value = Other (0 ∷ []); whole = refl }; here = λ some starts. grind (arith, some) })
wrong_empty (o ∷ octets) none = grind (arith, none)

-- the value of an identity is the value that its octets have
pub suci_identity : (octets : List ℕ) (s : SuciParts) → suci_in octets ≡ Some s → identity_in octets ≡ Some (Suci s)
suci_identity octets s h = let b = suci_first octets (has_value h) in
    is_suci_first octets (null_scheme_follows octets b.0 b.1) b.0 ∙ ap (option_map (λ s. Suci s)) h

pub guti_identity : (octets : List ℕ) (g : Guti) → guti_in octets ≡ Some g → identity_in octets ≡ Some (GutiIdentity g)
guti_identity octets g h = is_guti octets (guti_kind octets (has_value h)) ∙ ap (option_map (λ g. GutiIdentity g)) h

pub stmsi_identity : (octets : List ℕ) (s : Stmsi) → stmsi_in octets ≡ Some s → identity_in octets ≡ Some (StmsiIdentity s)
stmsi_identity octets s h = is_stmsi octets (stmsi_kind octets (has_value h)) ∙ ap (option_map (λ s. StmsiIdentity s)) h

pub other_identity : (octets : List ℕ) → is_other octets ≡ true → identity_in octets ≡ Some (Other octets)
unfolding identity_in
other_identity octets h = rw h refl
