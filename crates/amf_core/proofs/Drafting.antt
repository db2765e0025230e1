-- What the changes of a step make of what was kept: the record that changed last stands in the place of that of its key.
use Rattle.std.proofs.Common.{◌≡◌, refl, ◌∙◌, ap, ℕ, Bool, true, false, ◌==◌, List, [], ◌∷◌, Some, option_map, if◌then◌else◌, arith}
use Rattle.std.proofs.lemmas.Bool.Decides.{nat_tests}
use Rattle.std.proofs.lemmas.Slice.Eq.{bytes_eq-Decides}
use Rattle.amf_core.specs.Keyed.{all_current, current, found, newest, or_kept, put_in}
use Rattle.amf_core.specs.State.{has_number, has_supi, is_same_link, is_same_subscriber}
use Rattle.amf_core.specs.declared.link.Link.{Link}
use Rattle.amf_core.specs.declared.subscriber.Record.{Record}

pub unchanged_stay : {A : Type 0} (same : A → A → Bool) (records : List A) → all_current same [] records ≡ records
unchanged_stay same [] = refl
unchanged_stay same (x ∷ records) = ap (λ (rest : List _). x ∷ rest) (unchanged_stay same records)

-- a record of the same key is the same to every other
abbrev KeepsKeys : {A : Type 0} → (A → A → Bool) → Type 0
KeepsKeys same = (s x y : _) → same y x ≡ true → same s y ≡ same s x

key_of_one : {A : Type 0} (same : A → A → Bool) → KeepsKeys same → (s x y : A) (ys : List A) (is : Bool) → same y x ≡ is
    → same s (current same ys x) ≡ same s x → same s (or_kept (if is then Some y else newest same ys x) x) ≡ same s x
key_of_one same keeps s x y ys true e rest = keeps s x y e
key_of_one same keeps s x y ys false e rest = rest

key_stays : {A : Type 0} (same : A → A → Bool) → KeepsKeys same → (s x : A) (ys : List A) → same s (current same ys x) ≡ same s x
key_stays same keeps s x [] = refl
key_stays same keeps s x (y ∷ ys) = key_of_one same keeps s x y ys (same y x) refl (key_stays same keeps s x ys)

one_put : {A : Type 0} (same : A → A → Bool) (s x : A) (ys : List A) (is now : Bool) → now ≡ is
    → or_kept (if is then Some s else newest same ys x) x ≡ (if now then s else current same ys x)
one_put same s x ys true true e = refl
one_put same s x ys false false e = refl
one_put same s x ys true false e = cc
one_put same s x ys false true e = cc

pub all_put : {A : Type 0} (same : A → A → Bool) → KeepsKeys same → (s : A) (ys xs : List A)
    → all_current same (s ∷ ys) xs ≡ put_in same s (all_current same ys xs)
all_put same keeps s ys [] = refl
all_put same keeps s ys (x ∷ xs) =
    ap (λ (head : _). head ∷ all_current same (s ∷ ys) xs)
    (one_put same s x ys (same s x) (same s (current same ys x)) (key_stays same keeps s x ys))
    ∙ ap (λ (rest : List _). (if same s (current same ys x) then s else current same ys x) ∷ rest) (all_put same keeps s ys xs)

-- a SUPI, and the number of a link
subscribers_keep : KeepsKeys is_same_subscriber
subscribers_keep s x y e = grind (arith, bytes_eq-Decides x.supi y.supi, e)

links_keep : KeepsKeys is_same_link
links_keep s x y e = grind (arith, nat_tests, e)

pub subscriber_put : (s : Record) (ys xs : List Record)
    → all_current is_same_subscriber (s ∷ ys) xs ≡ put_in is_same_subscriber s (all_current is_same_subscriber ys xs)
subscriber_put s ys xs = all_put is_same_subscriber subscribers_keep s ys xs

pub link_put : (l : Link) (ys xs : List Link)
    → all_current is_same_link (l ∷ ys) xs ≡ put_in is_same_link l (all_current is_same_link ys xs)
link_put l ys xs = all_put is_same_link links_keep l ys xs

-- a test that looks at the key alone finds the same record as before, as it is by now
found_by_now : {A : Type 0} (same : A → A → Bool) (is : A → Bool) (ys xs : List A) → ((x : A) → is (current same ys x) ≡ is x)
    → found is (all_current same ys xs) ≡ option_map (current same ys) (found is xs)
found_by_now same is ys [] keeps = refl
found_by_now {A} same is ys (x ∷ xs) keeps =
    ap (λ (test : Bool). if test then Some (current same ys x) else found is (all_current same ys xs)) (keeps x)
    ∙ by_test (found_by_now same is ys xs keeps) (is x)
  where
    by_test : found is (all_current same ys xs) ≡ option_map (current same ys) (found is xs)
        → (test : Bool) → (if test then Some (current same ys x) else found is (all_current same ys xs))
        ≡ option_map (current same ys) (if test then Some x else found is xs)
    by_test rest true = refl
    by_test rest false = rest

-- a change has the key of what it is put in the place of
test_stays : {A : Type 0} (same : A → A → Bool) (is : A → Bool) → ((x y : A) → same y x ≡ true → is y ≡ is x) → (ys : List A) (x : A)
    → is (current same ys x) ≡ is x
test_stays same is keeps [] x = refl
test_stays same is keeps (y ∷ ys) x = by_key (test_stays same is keeps ys x) (same y x) refl
  where
    by_key : is (current same ys x) ≡ is x → (own : Bool) → same y x ≡ own → is (or_kept (if own then Some y else newest same ys x) x) ≡ is x
    by_key rest true e = keeps x y e
    by_key rest false e = rest

pub subscriber_by_now : (supi : List ℕ) (ys xs : List Record)
    → found (has_supi supi) (all_current is_same_subscriber ys xs) ≡ option_map (current is_same_subscriber ys) (found (has_supi supi) xs)
subscriber_by_now supi ys xs =
    found_by_now is_same_subscriber (has_supi supi) ys xs
    (λ x. test_stays is_same_subscriber (has_supi supi) (λ old new e. grind (arith, bytes_eq-Decides old.supi new.supi, e)) ys x)

pub link_by_now : (number : ℕ) (ys xs : List Link)
    → found (has_number number) (all_current is_same_link ys xs) ≡ option_map (current is_same_link ys) (found (has_number number) xs)
link_by_now number ys xs =
    found_by_now is_same_link (has_number number) ys xs
    (λ x. test_stays is_same_link (has_number number) (λ old new e. grind (arith, nat_tests, e)) ys x)
