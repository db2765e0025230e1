-- Lists of numbers: what is in one after a number is put in or left out.
use Rattle.std.proofs.Common.{◌≡◌, ◌≢◌, ◌<◌, ◌≤◌, ℕ, Bool, true, false, List, [], ◌∷◌, arith, refl, ap, sym}
use Rattle.std.specs.Prelude.{nat_lt, ◌==◌, Some, None}
use Rattle.std.proofs.lemmas.Bool.{eq-eqb, ne_eqb}
use Rattle.std.proofs.lemmas.Bool.Decides.{nat_tests}
use Rattle.nas_pools.specs.Numbers.{is_in, least_free, with_number, without}
use Rattle.nas_pools.proofs.FailingLemmas.{Changed, FoundAt, all_pass_from, failing_before, failing_now, found_from}

without_same_by : (n m : ℕ) (ms : List ℕ) (b : Bool) → (m == n) ≡ b → is_in n (without n ms) ≡ false → is_in n (without n (m ∷ ms)) ≡ false
without_same_by n m ms true is rest = rw is rest
without_same_by n m ms false is rest = rw (is, is, rest) refl

-- a number that is left out isn't there
pub in_without_same : (n : ℕ) (ms : List ℕ) → is_in n (without n ms) ≡ false
in_without_same n [] = refl
in_without_same n (m ∷ ms) = without_same_by n m ms (m == n) refl (in_without_same n ms)

without_other_by : (n m k : ℕ) (ms : List ℕ) (b : Bool) → (m == n) ≡ b → k ≢ n → is_in k (without n ms) ≡ is_in k ms → is_in k (without n (m ∷ ms)) ≡ is_in k (m ∷ ms)
without_other_by n m k ms true is apart rest =
    let same : m ≡ n = grind (arith, nat_tests) in
    let other : (m == k) ≡ false = ne_eqb m k (λ e. apart (omega arith)) in rw (is, other) rest
without_other_by n m k ms false is apart rest = rw (is, rest) refl

-- all others are
pub in_without_other : (n k : ℕ) (ms : List ℕ) → k ≢ n → is_in k (without n ms) ≡ is_in k ms
in_without_other n k [] apart = refl
in_without_other n k (m ∷ ms) apart = without_other_by n m k ms (m == n) refl apart (in_without_other n k ms apart)

pub left_out : (n : ℕ) (ms : List ℕ) → Changed (λ k. is_in k ms) (λ k. is_in k (without n ms)) n false
left_out n ms = record {
  there = in_without_same n ms;
  others = λ k apart. in_without_other n k ms apart;
}

with_same_by : (n m : ℕ) (ms : List ℕ) (b : Bool) → nat_lt m n ≡ b → is_in n (with_number n ms) ≡ true → is_in n (with_number n (m ∷ ms)) ≡ true
with_same_by n m ms true is rest = let other : (m == n) ≡ false = ne_eqb m n (λ e. grind (arith, nat_tests)) in rw (is, other, rest) refl
with_same_by n m ms false is rest = rw (is, eq-eqb n n refl) refl

-- a number that is put in is there
pub in_with_same : (n : ℕ) (ms : List ℕ) → is_in n (with_number n ms) ≡ true
in_with_same n [] = rw (eq-eqb n n refl) refl
in_with_same n (m ∷ ms) = with_same_by n m ms (nat_lt m n) refl (in_with_same n ms)

with_other_by : (n m k : ℕ) (ms : List ℕ) (b : Bool) → nat_lt m n ≡ b → k ≢ n → is_in k (with_number n ms) ≡ is_in k ms → is_in k (with_number n (m ∷ ms)) ≡ is_in k (m ∷ ms)
with_other_by n m k ms true is apart rest = rw (is, rest) refl
with_other_by n m k ms false is apart rest =
    let other : (n == k) ≡ false = ne_eqb n k (λ e. apart (sym e)) in rw (is, other) (in_without_other n k (m ∷ ms) apart)

pub in_with_other : (n k : ℕ) (ms : List ℕ) → k ≢ n → is_in k (with_number n ms) ≡ is_in k ms
in_with_other n k [] apart = let other : (n == k) ≡ false = ne_eqb n k (λ e. apart (sym e)) in rw other refl
in_with_other n k (m ∷ ms) apart = with_other_by n m k ms (nat_lt m n) refl apart (in_with_other n k ms apart)

pub put_in : (n : ℕ) (ms : List ℕ) → Changed (λ k. is_in k ms) (λ k. is_in k (with_number n ms)) n true
put_in n ms = record {
  there = in_with_same n ms;
  others = λ k apart. in_with_other n k ms apart;
}

-- The least number that isn't in the list once a number is left out: what it was, where that stands before the number, else the number.
pub least_before : (size n m : ℕ) (ms : List ℕ) → least_free size ms ≡ Some m → m < n → least_free size (without n ms) ≡ Some m
least_before size n m ms is before = failing_before (λ k. is_in k ms) (λ k. is_in k (without n ms)) size n m (left_out n ms) is before

pub least_now : (size n m : ℕ) (ms : List ℕ) → least_free size ms ≡ Some m → n ≤ m → n < size → least_free size (without n ms) ≡ Some n
least_now size n m ms is behind below =
    let found : FoundAt (λ k. is_in k ms) 0 size m = found_from (λ k. is_in k ms) 0 size m is in
    failing_now (λ k. is_in k ms) (λ k. is_in k (without n ms)) size n (left_out n ms) below (λ k under. found.before k (omega arith) (omega arith))

pub least_alone : (size n : ℕ) (ms : List ℕ) → least_free size ms ≡ None → n < size → least_free size (without n ms) ≡ Some n
least_alone size n ms is below =
    failing_now (λ k. is_in k ms) (λ k. is_in k (without n ms)) size n (left_out n ms) below
    (λ k under. all_pass_from (λ k. is_in k ms) 0 size is k (omega arith) (omega arith))

without_absent_by : (n m : ℕ) (ms : List ℕ) (b : Bool) → (m == n) ≡ b → is_in n (m ∷ ms) ≡ false → (is_in n ms ≡ false → without n ms ≡ ms) → without n (m ∷ ms) ≡ m ∷ ms
without_absent_by n m ms true is absent rest = let there : true ≡ false = rw is at absent in absurd (cc)
without_absent_by n m ms false is absent rest = rw is (ap (λ (ks : List ℕ). m ∷ ks) (rest (rw is at absent)))

-- a number that isn't there leaves all
pub without_absent : (n : ℕ) (ms : List ℕ) → is_in n ms ≡ false → without n ms ≡ ms
without_absent n [] absent = refl
without_absent n (m ∷ ms) absent = without_absent_by n m ms (m == n) refl absent (without_absent n ms)

without_with_by : (n m : ℕ) (ms : List ℕ) (b : Bool) → nat_lt m n ≡ b → without n (with_number n ms) ≡ without n ms → without n (with_number n (m ∷ ms)) ≡ without n (m ∷ ms)
without_with_by n m ms true is rest = let other : (m == n) ≡ false = ne_eqb m n (λ e. grind (arith, nat_tests)) in rw (is, other, rest) refl
without_with_by n m ms false is rest =
    let same : (n == n) ≡ true = eq-eqb n n refl in
    rw (is, same) (without_absent n (without n (m ∷ ms)) (in_without_same n (m ∷ ms)))

-- what was put in is left out again
pub without_with : (n : ℕ) (ms : List ℕ) → without n (with_number n ms) ≡ without n ms
without_with n [] = let same : (n == n) ≡ true = eq-eqb n n refl in rw same refl
without_with n (m ∷ ms) = without_with_by n m ms (nat_lt m n) refl (without_with n ms)
