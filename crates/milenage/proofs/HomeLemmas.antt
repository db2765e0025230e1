-- The subscribers of a home network.
use Rattle.std.proofs.Common.{◌≡◌, refl, ap, ap₂, ◌∙◌, sym, subst, ℕ, ◌<◌, ◌+◌, suc, Bool, true, false, not, ◌||◌, ◌&&◌, nat_le, List, [], ◌∷◌, ◌++◌, length, take, drop, set, get_or, if◌then◌else◌, arith, Vec}
use Rattle.std.specs.List.{list_all}
use Rattle.std.specs.Str.{bytes_eq}
use Rattle.std.specs.Vec.{with_items}
use Rattle.std.proofs.lemmas.Slice.Eq.{bytes_eq-Decides}
use Rattle.std.proofs.lemmas.Bool.{and_parts}
use Rattle.std.proofs.lemmas.Bool.Decides.{nat_tests}
use Rattle.std.proofs.lemmas.List.Folds.{list_all-append}
use Rattle.std.proofs.lemmas.List.{drop-set, drop_more, length-append, take-append-drop, take-set, with_items_is}
use Rattle.milenage.specs.Home.{HomeRecord, are_distinct, is_home, is_kept, is_sqn, with_sqn}

abbrev has_sqn : HomeRecord → Bool
has_sqn r = is_sqn r.sqn

length-with_sqn : (supi : List ℕ) (n : ℕ) (home : List HomeRecord) → length (with_sqn supi n home) ≡ length home
length-with_sqn supi n [] = refl
length-with_sqn supi n (r ∷ home) = by_test (bytes_eq r.supi supi) (length-with_sqn supi n home) where
  by_test : (b : Bool) → length (with_sqn supi n home) ≡ length home
      → length (if b then record r { sqn = n } ∷ home else r ∷ with_sqn supi n home) ≡ length (r ∷ home)
  by_test true same = refl
  by_test false same = ap suc same

-- a new SQN_HE takes no SUPI and adds none
is_kept-with_sqn : (supi other : List ℕ) (n : ℕ) (home : List HomeRecord) → is_kept other (with_sqn supi n home) ≡ is_kept other home
is_kept-with_sqn supi other n [] = refl
is_kept-with_sqn supi other n (r ∷ home) = by_test (bytes_eq r.supi supi) (is_kept-with_sqn supi other n home) where
  by_test : (b : Bool) → is_kept other (with_sqn supi n home) ≡ is_kept other home
      → is_kept other (if b then record r { sqn = n } ∷ home else r ∷ with_sqn supi n home) ≡ is_kept other (r ∷ home)
  by_test true same = refl
  by_test false same = ap (λ (b : Bool). bytes_eq r.supi other || b) same

are_distinct-with_sqn : (supi : List ℕ) (n : ℕ) (home : List HomeRecord) → are_distinct (with_sqn supi n home) ≡ are_distinct home
are_distinct-with_sqn supi n [] = refl
are_distinct-with_sqn supi n (r ∷ home) = by_test (bytes_eq r.supi supi) (are_distinct-with_sqn supi n home) where
  by_test : (b : Bool) → are_distinct (with_sqn supi n home) ≡ are_distinct home
      → are_distinct (if b then record r { sqn = n } ∷ home else r ∷ with_sqn supi n home) ≡ are_distinct (r ∷ home)
  by_test true same = refl
  by_test false same = rw (is_kept-with_sqn supi r.supi n home, same) refl

have_sqns-with_sqn : (supi : List ℕ) (n : ℕ) (home : List HomeRecord) → is_sqn n ≡ true → list_all has_sqn home ≡ true
    → list_all has_sqn (with_sqn supi n home) ≡ true
have_sqns-with_sqn supi n [] small h = refl
have_sqns-with_sqn supi n (r ∷ home) small h =
    by_test (bytes_eq r.supi supi) (and_parts _ _ h) (have_sqns-with_sqn supi n home small (and_parts _ _ h).1) where
      by_test : (b : Bool) → (is_sqn r.sqn ≡ true) × (list_all has_sqn home ≡ true) → list_all has_sqn (with_sqn supi n home) ≡ true
          → list_all has_sqn (if b then record r { sqn = n } ∷ home else r ∷ with_sqn supi n home) ≡ true
      by_test true both rest = rw (small, both.1) refl
      by_test false both rest = rw (both.0, rest) refl

-- the facts of a home, one by one
pub home_parts : (home : List HomeRecord) → is_home home ≡ true
    → (nat_le (length home) 64 ≡ true) × (are_distinct home ≡ true) × (list_all has_sqn home ≡ true)
home_parts home h =
    let outer = and_parts (nat_le (length home) 64 && are_distinct home) (list_all has_sqn home) h in
    let inner = and_parts (nat_le (length home) 64) (are_distinct home) outer.0 in
    (inner.0, inner.1, outer.1)

home_with_sqn : (supi : List ℕ) (n : ℕ) (home : List HomeRecord) → is_sqn n ≡ true → is_home home ≡ true → is_home (with_sqn supi n home) ≡ true
home_with_sqn supi n home small h =
    let parts = home_parts home h in
    rw (length-with_sqn supi n home, are_distinct-with_sqn supi n home, parts.0, parts.1, have_sqns-with_sqn supi n home small parts.2) refl

-- the same of what a Vec has
pub home_items : {Z : Type 0} (v : Vec HomeRecord Z) (supi : List ℕ) (n : ℕ) (given ws : List HomeRecord) → is_sqn n ≡ true → is_home v.items ≡ true → given ≡ v.items
    → ws ≡ with_sqn supi n given → is_home (with_items v ws).items ≡ true
home_items v supi n given ws small h same set_is =
    let size : length ws ≡ v.len = ap length set_is ∙ length-with_sqn supi n given ∙ ap length same ∙ sym v.ok.0 in
    subst (λ (home : List HomeRecord). is_home home ≡ true) (sym (with_items_is v ws size)) (rw (set_is, same) (home_with_sqn supi n v.items small h))

-- one more, of a SUPI that none has
bytes_eq-sym : (x y : List ℕ) → bytes_eq x y ≡ false → bytes_eq y x ≡ false
bytes_eq-sym x y h = grind (arith, bytes_eq-Decides x y, bytes_eq-Decides y x)

kept_pushed : (supi : List ℕ) (r : HomeRecord) (home : List HomeRecord) → is_kept supi home ≡ false → bytes_eq r.supi supi ≡ false
    → is_kept supi (home ++ r ∷ []) ≡ false
kept_pushed supi r [] h e = rw e refl
kept_pushed supi r (s ∷ home) h e = by_test (bytes_eq s.supi supi) h (λ (h1 : is_kept supi home ≡ false). kept_pushed supi r home h1 e) where
  by_test : (b : Bool) → (b || is_kept supi home) ≡ false → (is_kept supi home ≡ false → is_kept supi (home ++ r ∷ []) ≡ false)
      → (b || is_kept supi (home ++ r ∷ [])) ≡ false
  by_test true h1 rest = h1
  by_test false h1 rest = rest h1

distinct_pushed : (r : HomeRecord) (home : List HomeRecord) → are_distinct home ≡ true → is_kept r.supi home ≡ false
    → are_distinct (home ++ r ∷ []) ≡ true
distinct_pushed r [] h new = refl
distinct_pushed r (s ∷ home) h new =
    by_tests (bytes_eq s.supi r.supi) refl (is_kept s.supi home) refl h new
    (λ (d : are_distinct home ≡ true) (k : is_kept r.supi home ≡ false). distinct_pushed r home d k) where
      by_tests : (same : Bool) → bytes_eq s.supi r.supi ≡ same → (kept : Bool) → is_kept s.supi home ≡ kept
          → (not kept && are_distinct home) ≡ true → (same || is_kept r.supi home) ≡ false
          → (are_distinct home ≡ true → is_kept r.supi home ≡ false → are_distinct (home ++ r ∷ []) ≡ true)
          → (not (is_kept s.supi (home ++ r ∷ [])) && are_distinct (home ++ r ∷ [])) ≡ true
      by_tests true same kept e h1 h2 rest = cc
      by_tests false same true e h1 h2 rest = cc
      by_tests false same false e h1 h2 rest =
          rw (kept_pushed s.supi r home e (bytes_eq-sym s.supi r.supi same), rest h1 h2) refl

pub home_pushed : (r : HomeRecord) (home : List HomeRecord) → is_home home ≡ true → is_kept r.supi home ≡ false → length home < 64
    → is_sqn r.sqn ≡ true → is_home (home ++ r ∷ []) ≡ true
home_pushed r home h new room small =
    let parts = home_parts home h in
    let short : nat_le (length (home ++ r ∷ [])) 64 ≡ true = grind (arith, nat_tests, length-append home (r ∷ [])) in
    rw (short, distinct_pushed r home parts.1 new, list_all-append has_sqn home (r ∷ []), parts.2, small) refl

-- SQN_HE is set at the first place that has the SUPI
pub set_here : (supi : List ℕ) (n i : ℕ) (home : List HomeRecord) (r d : HomeRecord) → i < length home → r ≡ get_or home i d → bytes_eq r.supi supi ≡ true
    → take i home ++ with_sqn supi n (drop i home) ≡ with_sqn supi n home → set home i (record r { sqn = n }) ≡ with_sqn supi n home
set_here supi n i home r d lt is same told =
    let new : HomeRecord = record r { sqn = n } in
    let here : drop i home ≡ r ∷ drop (i + 1) home =
    drop_more home i d lt ∙ ap (λ (s : HomeRecord). s ∷ drop (i + 1) home) (sym is) in
    let tail : with_sqn supi n (drop i home) ≡ new ∷ drop (i + 1) home = rw (here, same) refl in
    sym (take-append-drop i (set home i new)) ∙ ap₂ (λ (xs ys : List HomeRecord). xs ++ ys) (take-set home i new) (drop-set home i new lt ∙ sym tail) ∙ told
