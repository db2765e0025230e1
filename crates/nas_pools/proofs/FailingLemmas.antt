-- The first number that fails a test.
use Rattle.std.proofs.Common.{◌≡◌, ◌≢◌, ◌<◌, ◌≤◌, ◌+◌, ℕ, zero, suc, Bool, true, false, arith, refl, sym, ◌∙◌}
use Rattle.std.specs.Prelude.{◌==◌, IfSome, Option, Some, None}
use Rattle.std.proofs.lemmas.Bool.Decides.{nat_tests}
use Rattle.nas_pools.specs.Numbers.{first_failing}

-- tests that agree on so many numbers, from this one on
pub record Agree (p q : ℕ → Bool) (from count : ℕ) : Type 0 where
  pub at : (n : ℕ) → from ≤ n → n < from + count → p n ≡ q n

pub agree_next : (p q : ℕ → Bool) (from count : ℕ) → Agree p q from (suc count) → Agree p q (suc from) count
agree_next p q from count h = record { at = λ n above below. h.at n (omega arith) (omega arith) }

pub agree_here : (p q : ℕ → Bool) (from count : ℕ) → Agree p q from (suc count) → p from ≡ q from
agree_here p q from count h = h.at from (omega arith) (omega arith)

pub first_failing_agree : (p q : ℕ → Bool) (from count : ℕ) → Agree p q from count → first_failing p from count ≡ first_failing q from count
first_failing_agree p q from zero h = refl
first_failing_agree p q from (suc count) h =
    rw (agree_here p q from count h, first_failing_agree p q (suc from) count (agree_next p q from count h)) refl

-- a test that changes at one number
pub record Changed (p q : ℕ → Bool) (n : ℕ) (now : Bool) : Type 0 where
  pub there : q n ≡ now
  pub others : (m : ℕ) → m ≢ n → q m ≡ p m

failing_found_by : (p : ℕ → Bool) (from count n : ℕ) (b : Bool) → (from == n) ≡ b → from ≤ n → p n ≡ false → ((m : ℕ) → from ≤ m → m < n → p m ≡ true) →
    (from < n → first_failing p (suc from) count ≡ Some n) → first_failing p from (suc count) ≡ Some n
failing_found_by p from count n true is above fails before rest = let same : from ≡ n = grind (arith, nat_tests) in rw (same, fails) refl
failing_found_by p from count n false is above fails before rest =
    let later : from < n = grind (arith, nat_tests) in let passes : p from ≡ true = before from (omega arith) later in rw passes (rest later)

-- the first number that fails, where all before it pass
pub failing_found : (p : ℕ → Bool) (from count n : ℕ) → from ≤ n → n < from + count → p n ≡ false → ((m : ℕ) → from ≤ m → m < n → p m ≡ true) →
    first_failing p from count ≡ Some n
failing_found p from zero n above below fails before = absurd (omega arith)
failing_found p from (suc count) n above below fails before =
    failing_found_by p from count n (from == n) refl above fails before
    (λ later. failing_found p (suc from) count n (omega arith) (omega arith) fails (λ m a b. before m (omega arith) b))

pub failing_none : (p : ℕ → Bool) (from count : ℕ) → ((m : ℕ) → from ≤ m → m < from + count → p m ≡ true) → first_failing p from count ≡ None
failing_none p from zero pass = refl
failing_none p from (suc count) pass =
    let passes : p from ≡ true = pass from (omega arith) (omega arith) in rw passes (failing_none p (suc from) count (λ m a b. pass m (omega arith) (omega arith)))

-- what the first number that fails is, and that there is none
pub record FoundAt (p : ℕ → Bool) (from count n : ℕ) : Type 0 where
  pub above : from ≤ n
  pub below : n < from + count
  pub fails : p n ≡ false
  pub before : (m : ℕ) → from ≤ m → m < n → p m ≡ true

before_more : (p : ℕ → Bool) (from n m : ℕ) (b : Bool) → (from == m) ≡ b → p from ≡ true → ((k : ℕ) → suc from ≤ k → k < n → p k ≡ true) → from ≤ m → m < n → p m ≡ true
before_more p from n m true is h before above below = let same : m ≡ from = grind (arith, nat_tests) in rw same h
before_more p from n m false is h before above below = let later : suc from ≤ m = grind (arith, nat_tests) in before m later below

found_from_by : (p : ℕ → Bool) (from count n : ℕ) (b : Bool) → p from ≡ b → first_failing p from (suc count) ≡ Some n →
    (first_failing p (suc from) count ≡ Some n → FoundAt p (suc from) count n) → FoundAt p from (suc count) n
found_from_by p from count n true is h rest =
    let found : FoundAt p (suc from) count n = rest (rw is at h) in
    let above : suc from ≤ n = found.above in
    let below : n < suc from + count = found.below in
    record {
      above = omega arith;
      below = omega arith;
      fails = found.fails;
      before = λ m a b. before_more p from n m (from == m) refl is found.before a b;
    }
found_from_by p from count n false is h rest =
    let h' : Some from ≡ Some n = rw is at h in
    let same : from ≡ n = cc in
    record {
      above = omega arith;
      below = omega arith;
      fails = rw (← same) is;
      before = λ m a b. absurd (omega arith);
    }

pub found_from : (p : ℕ → Bool) (from count n : ℕ) → first_failing p from count ≡ Some n → FoundAt p from count n
found_from p from zero n h = absurd (cc)
found_from p from (suc count) n h = found_from_by p from count n (p from) refl h (λ e. found_from p (suc from) count n e)

all_pass_from_by : (p : ℕ → Bool) (from count m : ℕ) (b : Bool) → p from ≡ b → first_failing p from (suc count) ≡ None → from ≤ m → m < from + suc count →
    (first_failing p (suc from) count ≡ None → (k : ℕ) → suc from ≤ k → k < suc from + count → p k ≡ true) → p m ≡ true
all_pass_from_by p from count m true is h above below rest =
    before_more p from (from + suc count) m (from == m) refl is (λ k a b. rest (rw is at h) k a (omega arith)) above below
all_pass_from_by p from count m false is h above below rest = let h' : Some from ≡ None = rw is at h in absurd (cc)

pub all_pass_from : (p : ℕ → Bool) (from count : ℕ) → first_failing p from count ≡ None → (m : ℕ) → from ≤ m → m < from + count → p m ≡ true
all_pass_from p from zero h m above below = absurd (omega arith)
all_pass_from p from (suc count) h m above below =
    all_pass_from_by p from count m (p from) refl h above below (λ e k a b. all_pass_from p (suc from) count e k a b)

-- the first that fails, after a test fails at one number more: it was before that number, or the number is the first now
pub failing_before : (p q : ℕ → Bool) (size n m : ℕ) → Changed p q n false → first_failing p 0 size ≡ Some m → m < n → first_failing q 0 size ≡ Some m
failing_before p q size n m h is before =
    let found : FoundAt p 0 size m = found_from p 0 size m is in
    let below : m < 0 + size = found.below in
    failing_found q 0 size m (omega arith) (omega arith) (h.others m (λ e. omega arith) ∙ found.fails)
    (λ k above under. h.others k (λ e. omega arith) ∙ found.before k above under)

pub failing_now : (p q : ℕ → Bool) (size n : ℕ) → Changed p q n false → n < size → ((m : ℕ) → m < n → p m ≡ true) → first_failing q 0 size ≡ Some n
failing_now p q size n h below pass =
    failing_found q 0 size n (omega arith) (omega arith) h.there (λ k above under. h.others k (λ e. omega arith) ∙ pass k under)

-- it is below the end
pub failing_below : (p : ℕ → Bool) (size : ℕ) (found : Option ℕ) → found ≡ first_failing p 0 size → IfSome found (λ n. n < size)
failing_below p size None is = tt
failing_below p size (Some n) is = let at : FoundAt p 0 size n = found_from p 0 size n (sym is) in let below : n < 0 + size = at.below in omega arith
