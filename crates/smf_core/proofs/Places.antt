-- A record is found place by place.
use Rattle.std.proofs.Common.{◌≡◌, ◌<◌, ◌+◌, ◌-◌, ℕ, zero, suc, Bool, true, false, List, [], ◌∷◌, length, get_or, set, refl, ap, ◌∙◌, arith, if◌then◌else◌}
use Rattle.std.specs.Prelude.{slice_set}
use Rattle.std.specs.Str.{bytes_eq}
use Rattle.smf_core.specs.State.{with_cell}
use Rattle.smf_core.specs.declared.cell.Cell.{Cell}
use Rattle.smf_core.specs.declared.subscriber.Subscriber.{Subscriber}

-- no place is in an empty list
nothing : (n : ℕ) → n < 0 → ⊥
nothing n within = omega arith

-- none of the first so many is of this SUPI
unfoldable pub none_before : ℕ → List ℕ → List Subscriber → Bool
none_before zero supi ss = true
none_before (suc n) supi [] = true
none_before (suc n) supi (s ∷ ss) = if bytes_eq s.supi supi then false else none_before n supi ss

pub none_at_first : (supi : List ℕ) (ss : List Subscriber) → none_before 0 supi ss ≡ true
unfolding none_before
none_at_first supi ss = refl

step_at : (n : ℕ) (supi : List ℕ) (s : Subscriber) (ss : List Subscriber) (is : Bool) → bytes_eq s.supi supi ≡ is
    → (if is then false else none_before n supi ss) ≡ true
    → (none_before n supi ss ≡ true → none_before (suc n) supi ss ≡ true)
    → (if is then false else none_before (suc n) supi ss) ≡ true
step_at n supi s ss true e none rest = absurd (cc)
step_at n supi s ss false e none rest = rest none

none_suc : (n : ℕ) (supi : List ℕ) (ss : List Subscriber) (x : Subscriber) → x ≡ get_or ss n x → n < length ss
    → none_before n supi ss ≡ true
    → bytes_eq x.supi supi ≡ false → none_before (suc n) supi ss ≡ true
unfolding none_before
none_suc n supi [] x is within none other = absurd (nothing n within)
none_suc zero supi (s ∷ ss) x is within none other = rw (← is, other) refl
none_suc (suc n) supi (s ∷ ss) x is within none other =
    let less : n < length ss = omega (arith, within) in
    step_at n supi s ss (bytes_eq s.supi supi) refl none (λ before. none_suc n supi ss x is less before other)

pub none_more : (n : ℕ) (supi : List ℕ) (ss : List Subscriber) (x : Subscriber) → x ≡ get_or ss n x → n < length ss
    → none_before n supi ss ≡ true
    → bytes_eq x.supi supi ≡ false → none_before (n + 1) supi ss ≡ true
none_more n supi ss x is within none other = rw one (none_suc n supi ss x is within none other) where
  one : n + 1 ≡ suc n
  one = omega arith

hit_at : (n psi : ℕ) (supi : List ℕ) (c : Cell) (s y : Subscriber) (ss : List Subscriber) (is : Bool)
    → bytes_eq s.supi supi ≡ is
    → (if is then false else none_before n supi ss) ≡ true
    → (none_before n supi ss ≡ true → set ss n y ≡ with_cell supi psi c ss)
    → s ∷ set ss n y ≡ (if is then record s { cells = slice_set s.cells (psi - 1) c } ∷ ss else s ∷ with_cell supi psi c ss)
hit_at n psi supi c s y ss true e none rest = absurd (cc)
hit_at n psi supi c s y ss false e none rest = ap (λ more. s ∷ more) (rest none)

pub hit : (n psi : ℕ) (supi : List ℕ) (c : Cell) (ss : List Subscriber) (x : Subscriber) → x ≡ get_or ss n x
    → n < length ss
    → none_before n supi ss ≡ true → bytes_eq x.supi supi ≡ true
    → set ss n (record x { cells = slice_set x.cells (psi - 1) c }) ≡ with_cell supi psi c ss
unfolding none_before
hit n psi supi c [] x is within none its = absurd (nothing n within)
hit zero psi supi c (s ∷ ss) x is within none its =
    let e : bytes_eq s.supi supi ≡ true = rw (← is) its in rw (e, is) refl
hit (suc n) psi supi c (s ∷ ss) x is within none its =
    let less : n < length ss = omega (arith, within) in
    hit_at n psi supi c s (record x { cells = slice_set x.cells (psi - 1) c }) ss (bytes_eq s.supi supi) refl none
    (λ before. hit n psi supi c ss x is less before its)

miss_at : (psi : ℕ) (supi : List ℕ) (c : Cell) (s : Subscriber) (ss : List Subscriber) (is : Bool)
    → bytes_eq s.supi supi ≡ is
    → (if is then false else none_before (length ss) supi ss) ≡ true
    → (none_before (length ss) supi ss ≡ true → ss ≡ with_cell supi psi c ss)
    → s ∷ ss ≡ (if is then record s { cells = slice_set s.cells (psi - 1) c } ∷ ss else s ∷ with_cell supi psi c ss)
miss_at psi supi c s ss true e none rest = absurd (cc)
miss_at psi supi c s ss false e none rest = ap (λ more. s ∷ more) (rest none)

pub miss : (psi : ℕ) (supi : List ℕ) (c : Cell) (ss : List Subscriber) → none_before (length ss) supi ss ≡ true
    → ss ≡ with_cell supi psi c ss
unfolding none_before
miss psi supi c [] none = refl
miss psi supi c (s ∷ ss) none = miss_at psi supi c s ss (bytes_eq s.supi supi) refl none (miss psi supi c ss)

-- a record that is put where it stands
pub put_there : (ss : List Subscriber) (n : ℕ) (x : Subscriber) → set ss n (get_or ss n x) ≡ ss
put_there [] n x = refl
put_there (s ∷ ss) zero x = refl
put_there (s ∷ ss) (suc n) x = ap (λ more. s ∷ more) (put_there ss n x)

pub none_more_there : (n : ℕ) (supi : List ℕ) (ss : List Subscriber) (x : Subscriber) → x ≡ get_or ss n x
    → n < length ss
    → none_before n supi ss ≡ true → bytes_eq x.supi supi ≡ false
    → none_before (n + 1) supi (set ss n (get_or ss n x)) ≡ true
none_more_there n supi ss x is within none other =
    ap (none_before (n + 1) supi) (put_there ss n x) ∙ none_more n supi ss x is within none other
