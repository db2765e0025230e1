-- Which sessions there are, identity by identity.
use Rattle.std.proofs.Common.{◌≡◌, ◌<◌, ◌≤◌, ◌-◌, ◌+◌, ℕ, zero, suc, Bool, true, false, List, [], ◌∷◌, ◌++◌, length, replicate, Option, Some, None, is_some, option_map, refl, sym, ap, ◌∙◌, arith, add-zero}
use Rattle.std.specs.Prelude.{slice_set}
use Rattle.nas_elements.specs.Status.{with_session}
use Rattle.smf_core.specs.Kept.{seen_as}
use Rattle.smf_core.specs.State.{SmfState, cell_of, is_held, session_of, tests_from}

not_zero : 1 ≤ 0 → ⊥
not_zero low = omega arith

-- a session is seen exactly where there is one
some_mapped : {A B : Type 0} (f : A → B) (o : Option A) → is_some (option_map f o) ≡ is_some o
some_mapped f None = refl
some_mapped f (Some x) = refl

pub seen_where_held : (supi : List ℕ) (psi : ℕ) (smf : SmfState)
    → is_some (session_of supi psi smf) ≡ is_held supi smf psi
unfolding session_of
seen_where_held supi psi smf = some_mapped (seen_as psi) (cell_of supi psi smf).held

-- one more test at the end
tests_snoc : (k p : ℕ) (test : ℕ → Bool) → tests_from (suc k) p test ≡ tests_from k p test ++ test (p + k) ∷ []
tests_snoc zero p test = ap (λ n. test n ∷ []) (sym (add-zero p))
tests_snoc (suc k) p test =
    let shift : p + 1 + k ≡ p + suc k = omega arith in
    ap (λ rest. test p ∷ rest) (tests_snoc k (p + 1) test ∙ ap (λ n. tests_from k (p + 1) test ++ test n ∷ []) shift)

length-tests : (k p : ℕ) (test : ℕ → Bool) → length (tests_from k p test) ≡ k
length-tests zero p test = refl
length-tests (suc k) p test = ap suc (length-tests k (p + 1) test)

-- the tests so far, and no session behind them
abbrev pub told : ℕ → (ℕ → Bool) → List Bool
told n test = tests_from (n - 1) 1 test ++ replicate (16 - n) false

set_behind : (xs : List Bool) (y z : Bool) (zs : List Bool) → slice_set (xs ++ y ∷ zs) (length xs) z ≡ xs ++ z ∷ zs
set_behind [] y z zs = refl
set_behind (x ∷ xs) y z zs = ap (λ rest. x ∷ rest) (set_behind xs y z zs)

told_split : (k : ℕ) (test : ℕ → Bool) → k < 15
    → told (suc k) test ≡ tests_from k 1 test ++ false ∷ replicate (15 - suc k) false
told_split k test more =
    let left : 16 - suc k ≡ suc (15 - suc k) = omega arith in
    let at : suc k - 1 ≡ k = omega arith in
    rw (left, at) refl

snoc_append : (xs : List Bool) (y : Bool) (zs : List Bool) → (xs ++ y ∷ []) ++ zs ≡ xs ++ y ∷ zs
snoc_append [] y zs = refl
snoc_append (x ∷ xs) y zs = ap (λ rest. x ∷ rest) (snoc_append xs y zs)

told_next : (k : ℕ) (test : ℕ → Bool) → k < 15
    → told (suc (suc k)) test ≡ tests_from k 1 test ++ test (suc k) ∷ replicate (15 - suc k) false
told_next k test more =
    let left : 16 - suc (suc k) ≡ 15 - suc k = omega arith in
    let at : suc (suc k) - 1 ≡ suc k = omega arith in
    let place : 1 + k ≡ suc k = omega arith in
    ap (λ m. tests_from m 1 test ++ replicate (16 - suc (suc k)) false) at
    ∙ ap (λ m. tests_from (suc k) 1 test ++ replicate m false) left
    ∙ ap (λ front. front ++ replicate (15 - suc k) false) (tests_snoc k 1 test)
    ∙ snoc_append (tests_from k 1 test) (test (1 + k)) (replicate (15 - suc k) false)
    ∙ ap (λ m. tests_from k 1 test ++ test m ∷ replicate (15 - suc k) false) place

pub told_held : (n : ℕ) (test : ℕ → Bool) → 1 ≤ n → n < 16 → test n ≡ true
    → with_session n (told n test) ≡ told (n + 1) test
told_held zero test low more held = absurd (not_zero low)
told_held (suc k) test low more held =
    let less : k < 15 = omega arith in
    let at : suc k - 1 ≡ length (tests_from k 1 test) = omega (arith, length-tests k 1 test) in
    let next : suc (suc k) ≡ suc k + 1 = omega arith in
    ap (λ xs. slice_set xs (suc k - 1) true) (told_split k test less)
    ∙ ap (λ i. slice_set (tests_from k 1 test ++ false ∷ replicate (15 - suc k) false) i true) at
    ∙ set_behind (tests_from k 1 test) false true (replicate (15 - suc k) false)
    ∙ ap (λ b. tests_from k 1 test ++ b ∷ replicate (15 - suc k) false) (sym held)
    ∙ sym (told_next k test less)
    ∙ ap (λ m. told m test) next

pub told_vacant : (n : ℕ) (test : ℕ → Bool) → 1 ≤ n → n < 16 → test n ≡ false → told n test ≡ told (n + 1) test
told_vacant zero test low more vacant = absurd (not_zero low)
told_vacant (suc k) test low more vacant =
    let less : k < 15 = omega arith in
    let next : suc (suc k) ≡ suc k + 1 = omega arith in
    told_split k test less
    ∙ ap (λ b. tests_from k 1 test ++ b ∷ replicate (15 - suc k) false) (sym vacant)
    ∙ sym (told_next k test less)
    ∙ ap (λ m. told m test) next

pub told_all : (n : ℕ) (test : ℕ → Bool) → 16 ≤ n → n ≤ 16 → told n test ≡ tests_from 15 1 test
told_all n test low high =
    let e : n ≡ 16 = omega arith in ap (λ m. told m test) e
