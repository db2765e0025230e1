-- The numbers that pass a test, as a list: what is in it, and how it changes with the test.
use Rattle.std.proofs.Common.{◌≡◌, ◌<◌, ◌≤◌, ◌+◌, ℕ, zero, suc, Bool, true, false, List, ◌∷◌, arith, refl, ap, sym, ◌∙◌}
use Rattle.std.specs.Prelude.{nat_lt, nat_le, ◌==◌, ◌&&◌, if◌then◌else◌}
use Rattle.std.proofs.lemmas.Bool.{and_from, eq-eqb, ne_eqb}
use Rattle.std.proofs.lemmas.Bool.Decides.{nat_tests}
use Rattle.nas_pools.specs.Bits.{passing}
use Rattle.nas_pools.specs.Numbers.{first_failing, is_in, least_free, rise, with_number, without}
use Rattle.nas_pools.proofs.FailingLemmas.{Agree, Changed, agree_here, agree_next, first_failing_agree}

pub passing_agree : (p q : ℕ → Bool) (from count : ℕ) → Agree p q from count → passing p from count ≡ passing q from count
passing_agree p q from zero h = refl
passing_agree p q from (suc count) h =
    rw (agree_here p q from count h, passing_agree p q (suc from) count (agree_next p q from count h)) refl

-- numbers of the list are from its first number on, and below its end
in_below_by : (p : ℕ → Bool) (from count n : ℕ) (b : Bool) → p from ≡ b → n < from → is_in n (passing p (suc from) count) ≡ false →
    is_in n (passing p from (suc count)) ≡ false
in_below_by p from count n true is h rest = let apart : (from == n) ≡ false = ne_eqb from n (λ e. omega arith) in rw (is, apart, rest) refl
in_below_by p from count n false is h rest = rw is rest

pub in_below : (p : ℕ → Bool) (from count n : ℕ) → n < from → is_in n (passing p from count) ≡ false
in_below p from zero n h = refl
in_below p from (suc count) n h = in_below_by p from count n (p from) refl h (in_below p (suc from) count n (omega arith))

in_above_by : (p : ℕ → Bool) (from count n : ℕ) (b : Bool) → p from ≡ b → from < n → is_in n (passing p (suc from) count) ≡ false →
    is_in n (passing p from (suc count)) ≡ false
in_above_by p from count n true is h rest = let apart : (from == n) ≡ false = ne_eqb from n (λ e. omega arith) in rw (is, apart, rest) refl
in_above_by p from count n false is h rest = rw is rest

pub in_above : (p : ℕ → Bool) (from count n : ℕ) → from + count ≤ n → is_in n (passing p from count) ≡ false
in_above p from zero n h = refl
in_above p from (suc count) n h = in_above_by p from count n (p from) refl (omega arith) (in_above p (suc from) count n (omega arith))

-- a number between them is in the list exactly where it passes
in_here : (p : ℕ → Bool) (from count : ℕ) (b : Bool) → p from ≡ b → is_in from (passing p from (suc count)) ≡ b
in_here p from count true is = rw (is, eq-eqb from from refl) refl
in_here p from count false is = rw is (in_below p (suc from) count from (omega arith))

in_later : (p : ℕ → Bool) (from count n : ℕ) (b : Bool) → p from ≡ b → from < n → is_in n (passing p from (suc count)) ≡ is_in n (passing p (suc from) count)
in_later p from count n true is h = let apart : (from == n) ≡ false = ne_eqb from n (λ e. omega arith) in rw (is, apart) refl
in_later p from count n false is h = rw is refl

in_within_by : (p : ℕ → Bool) (from count n : ℕ) (b : Bool) → (from == n) ≡ b → from ≤ n → n < from + suc count →
    (from < n → is_in n (passing p (suc from) count) ≡ p n) → is_in n (passing p from (suc count)) ≡ p n
in_within_by p from count n true is above below rest =
    let same : n ≡ from = grind (arith, nat_tests) in rw same (in_here p from count (p from) refl)
in_within_by p from count n false is above below rest =
    let later : from < n = grind (arith, nat_tests) in in_later p from count n (p from) refl later ∙ rest later

pub in_within : (p : ℕ → Bool) (from count n : ℕ) → from ≤ n → n < from + count → is_in n (passing p from count) ≡ p n
in_within p from zero n above below = absurd (omega arith)
in_within p from (suc count) n above below =
    in_within_by p from count n (from == n) refl above below (λ h. in_within p (suc from) count n (omega arith) (omega arith))

behind : (p q : ℕ → Bool) (n count : ℕ) (now : Bool) → Changed p q n now → passing q (suc n) count ≡ passing p (suc n) count
behind p q n count now h = passing_agree q p (suc n) count (record { at = λ m above below. h.others m (λ e. omega arith) })

-- a number that stands before the list
without_below_by : (p : ℕ → Bool) (from count n : ℕ) (b : Bool) → p from ≡ b → n < from → without n (passing p (suc from) count) ≡ passing p (suc from) count →
    without n (passing p from (suc count)) ≡ passing p from (suc count)
without_below_by p from count n true is h rest = let apart : (from == n) ≡ false = ne_eqb from n (λ e. omega arith) in rw (is, apart, rest) refl
without_below_by p from count n false is h rest = rw (is, rest) refl

without_below : (p : ℕ → Bool) (from count n : ℕ) → n < from → without n (passing p from count) ≡ passing p from count
without_below p from zero n h = refl
without_below p from (suc count) n h = without_below_by p from count n (p from) refl h (without_below p (suc from) count n (omega arith))

with_below_by : (p : ℕ → Bool) (from count n : ℕ) (b : Bool) → p from ≡ b → n < from → with_number n (passing p (suc from) count) ≡ n ∷ passing p (suc from) count →
    with_number n (passing p from (suc count)) ≡ n ∷ passing p from (suc count)
with_below_by p from count n true is h rest =
    let order : nat_lt from n ≡ false = grind (arith, nat_tests) in
    let apart : (from == n) ≡ false = ne_eqb from n (λ e. omega arith) in
    let others : without n (passing p (suc from) count) ≡ passing p (suc from) count = without_below p (suc from) count n (omega arith) in
    rw (is, order, apart, others) refl
with_below_by p from count n false is h rest = rw (is, rest) refl

with_below : (p : ℕ → Bool) (from count n : ℕ) → n < from → with_number n (passing p from count) ≡ n ∷ passing p from count
with_below p from zero n h = refl
with_below p from (suc count) n h = with_below_by p from count n (p from) refl h (with_below p (suc from) count n (omega arith))

-- the first number of the list
with_here : (p : ℕ → Bool) (n count : ℕ) (b : Bool) → p n ≡ b → with_number n (passing p n (suc count)) ≡ n ∷ passing p (suc n) count
with_here p n count true is =
    let order : nat_lt n n ≡ false = grind (arith, nat_tests) in
    let same : (n == n) ≡ true = eq-eqb n n refl in
    let others : without n (passing p (suc n) count) ≡ passing p (suc n) count = without_below p (suc n) count n (omega arith) in
    rw (is, order, same, others) refl
with_here p n count false is = rw is (with_below p (suc n) count n (omega arith))

without_here : (p : ℕ → Bool) (n count : ℕ) (b : Bool) → p n ≡ b → without n (passing p n (suc count)) ≡ passing p (suc n) count
without_here p n count true is =
    let same : (n == n) ≡ true = eq-eqb n n refl in
    let others : without n (passing p (suc n) count) ≡ passing p (suc n) count = without_below p (suc n) count n (omega arith) in
    rw (is, same, others) refl
without_here p n count false is = rw is (without_below p (suc n) count n (omega arith))

-- a later one
with_later : (p : ℕ → Bool) (from n count : ℕ) (b : Bool) (rest : List ℕ) → p from ≡ b → from < n → with_number n (passing p (suc from) count) ≡ rest →
    with_number n (passing p from (suc count)) ≡ (if b then from ∷ rest else rest)
with_later p from n count true rest is h e = let order : nat_lt from n ≡ true = grind (arith, nat_tests) in rw (is, order, e) refl
with_later p from n count false rest is h e = rw is e

without_later : (p : ℕ → Bool) (from n count : ℕ) (b : Bool) (rest : List ℕ) → p from ≡ b → from < n → without n (passing p (suc from) count) ≡ rest →
    without n (passing p from (suc count)) ≡ (if b then from ∷ rest else rest)
without_later p from n count true rest is h e = let apart : (from == n) ≡ false = ne_eqb from n (λ e. omega arith) in rw (is, apart, e) refl
without_later p from n count false rest is h e = rw is e

-- A number that passes now is put in, and one that fails now is left out.
with_passing_by : (p q : ℕ → Bool) (from count n : ℕ) (b : Bool) → (from == n) ≡ b → Changed p q n true → from ≤ n → n < from + suc count →
    (from < n → with_number n (passing p (suc from) count) ≡ passing q (suc from) count) → with_number n (passing p from (suc count)) ≡ passing q from (suc count)
with_passing_by p q from count n true is h above below rest =
    let same : from ≡ n = grind (arith, nat_tests) in
    rw (same, h.there) (with_here p n count (p n) refl ∙ ap (λ (ms : List ℕ). n ∷ ms) (sym (behind p q n count true h)))
with_passing_by p q from count n false is h above below rest =
    let later : from < n = grind (arith, nat_tests) in
    let as_before : p from ≡ q from = sym (h.others from (λ e. omega arith)) in
    with_later p from n count (q from) (passing q (suc from) count) as_before later (rest later)

pub with_passing : (p q : ℕ → Bool) (from count n : ℕ) → Changed p q n true → from ≤ n → n < from + count → with_number n (passing p from count) ≡ passing q from count
with_passing p q from zero n h above below = absurd (omega arith)
with_passing p q from (suc count) n h above below =
    with_passing_by p q from count n (from == n) refl h above below (λ later. with_passing p q (suc from) count n h (omega arith) (omega arith))

without_passing_by : (p q : ℕ → Bool) (from count n : ℕ) (b : Bool) → (from == n) ≡ b → Changed p q n false → from ≤ n → n < from + suc count →
    (from < n → without n (passing p (suc from) count) ≡ passing q (suc from) count) → without n (passing p from (suc count)) ≡ passing q from (suc count)
without_passing_by p q from count n true is h above below rest =
    let same : from ≡ n = grind (arith, nat_tests) in
    rw (same, h.there) (without_here p n count (p n) refl ∙ sym (behind p q n count false h))
without_passing_by p q from count n false is h above below rest =
    let later : from < n = grind (arith, nat_tests) in
    let as_before : p from ≡ q from = sym (h.others from (λ e. omega arith)) in
    without_later p from n count (q from) (passing q (suc from) count) as_before later (rest later)

pub without_passing : (p q : ℕ → Bool) (from count n : ℕ) → Changed p q n false → from ≤ n → n < from + count → without n (passing p from count) ≡ passing q from count
without_passing p q from zero n h above below = absurd (omega arith)
without_passing p q from (suc count) n h above below =
    without_passing_by p q from count n (from == n) refl h above below (λ later. without_passing p q (suc from) count n h (omega arith) (omega arith))

-- the least number that isn't in the list, by the test
pub least_passing : (p : ℕ → Bool) (size : ℕ) → least_free size (passing p 0 size) ≡ first_failing p 0 size
least_passing p size =
    first_failing_agree (λ n. is_in n (passing p 0 size)) p 0 size (record { at = λ n above below. in_within p 0 size n above below })

pub is_in_passing : (p : ℕ → Bool) (size n : ℕ) → n < size → is_in n (passing p 0 size) ≡ p n
is_in_passing p size n h = in_within p 0 size n (omega arith) (omega arith)

-- The numbers rise.
rise_passing_by : (p : ℕ → Bool) (low from count size : ℕ) (b : Bool) → p from ≡ b → low ≤ from → from < size →
    ((least : ℕ) → least ≤ suc from → rise least size (passing p (suc from) count) ≡ true) → rise low size (passing p from (suc count)) ≡ true
rise_passing_by p low from count size true is above below rest =
    let order : nat_le low from ≡ true = grind (arith, nat_tests) in
    let end : nat_lt from size ≡ true = grind (arith, nat_tests) in
    rw is (and_from (nat_le low from && nat_lt from size) (rise (suc from) size (passing p (suc from) count)) (and_from (nat_le low from) (nat_lt from size) order end) (rest (suc from) (omega arith)))
rise_passing_by p low from count size false is above below rest = rw is (rest low (omega arith))

pub rise_passing : (p : ℕ → Bool) (low from count size : ℕ) → low ≤ from → from + count ≤ size → rise low size (passing p from count) ≡ true
rise_passing p low from zero size above below = refl
rise_passing p low from (suc count) size above below =
    rise_passing_by p low from count size (p from) refl above (omega arith)
    (λ least h. rise_passing p least (suc from) count size h (omega arith))
