-- A list of numbers that rise still does after a number is put in or left out.
use Rattle.std.proofs.Common.{◌≡◌, ◌<◌, ◌≤◌, ℕ, suc, Bool, true, false, List, [], ◌∷◌, arith, refl}
use Rattle.std.specs.Prelude.{nat_lt, nat_le, ◌==◌, ◌&&◌}
use Rattle.std.proofs.lemmas.Bool.{and_from, and_parts}
use Rattle.std.proofs.lemmas.Bool.Decides.{nat_tests}
use Rattle.nas_pools.specs.Numbers.{rise, with_number, without}

-- what a list that rises says of its first number and of the others
record Rises (low size m : ℕ) (ms : List ℕ) : Type 0 where
  from : low ≤ m
  below : m < size
  rest : rise (suc m) size ms ≡ true

rises_parts : (low size m : ℕ) (ms : List ℕ) → rise low size (m ∷ ms) ≡ true → Rises low size m ms
rises_parts low size m ms h =
    let outer = and_parts (nat_le low m && nat_lt m size) (rise (suc m) size ms) h in
    let inner = and_parts (nat_le low m) (nat_lt m size) outer.0 in
    let above : nat_le low m ≡ true = inner.0 in
    let under : nat_lt m size ≡ true = inner.1 in
    record {
      from = grind (arith, nat_tests);
      below = grind (arith, nat_tests);
      rest = outer.1;
    }

rises_joined : (low size m : ℕ) (ms : List ℕ) → Rises low size m ms → rise low size (m ∷ ms) ≡ true
rises_joined low size m ms r =
    let from : low ≤ m = r.from in
    let below : m < size = r.below in
    let above : nat_le low m ≡ true = grind (arith, nat_tests) in
    let under : nat_lt m size ≡ true = grind (arith, nat_tests) in
    and_from (nat_le low m && nat_lt m size) (rise (suc m) size ms) (and_from (nat_le low m) (nat_lt m size) above under) r.rest

rise_lower : (low least size : ℕ) (ms : List ℕ) → least ≤ low → rise low size ms ≡ true → rise least size ms ≡ true
rise_lower low least size [] h rises = refl
rise_lower low least size (m ∷ ms) h rises =
    let r : Rises low size m ms = rises_parts low size m ms rises in
    let from : low ≤ m = r.from in
    rises_joined least size m ms (record { from = omega arith; below = r.below; rest = r.rest })

rise_without_by : (low size n m : ℕ) (ms : List ℕ) (b : Bool) → (m == n) ≡ b → Rises low size m ms → rise (suc m) size (without n ms) ≡ true →
    rise low size (without n (m ∷ ms)) ≡ true
rise_without_by low size n m ms true is r rest = let from : low ≤ m = r.from in rw is (rise_lower (suc m) low size (without n ms) (omega arith) rest)
rise_without_by low size n m ms false is r rest = rw is (rises_joined low size m (without n ms) (record { from = r.from; below = r.below; rest = rest }))

pub rise_without : (low size n : ℕ) (ms : List ℕ) → rise low size ms ≡ true → rise low size (without n ms) ≡ true
rise_without low size n [] rises = refl
rise_without low size n (m ∷ ms) rises =
    let r : Rises low size m ms = rises_parts low size m ms rises in rise_without_by low size n m ms (m == n) refl r (rise_without (suc m) size n ms r.rest)

-- the list's numbers from this one on
rise_higher_by : (low size n m : ℕ) (ms : List ℕ) (b : Bool) → (m == n) ≡ b → n ≤ m → Rises low size m ms → rise (suc n) size (without n (m ∷ ms)) ≡ true
rise_higher_by low size n m ms true is behind r =
    let same : m ≡ n = grind (arith, nat_tests) in
    rw is (rise_without (suc n) size n ms (rise_lower (suc m) (suc n) size ms (omega arith) r.rest))
rise_higher_by low size n m ms false is behind r =
    let after : n < m = grind (arith, nat_tests) in
    rw is (rises_joined (suc n) size m (without n ms) (record { from = omega arith; below = r.below; rest = rise_without (suc m) size n ms r.rest }))

rise_with_by : (low size n m : ℕ) (ms : List ℕ) (b : Bool) → nat_lt m n ≡ b → low ≤ n → n < size → Rises low size m ms →
    (m < n → rise (suc m) size (with_number n ms) ≡ true) → rise low size (with_number n (m ∷ ms)) ≡ true
rise_with_by low size n m ms true is above below r rest =
    let before : m < n = grind (arith, nat_tests) in
    rw is (rises_joined low size m (with_number n ms) (record { from = r.from; below = r.below; rest = rest before }))
rise_with_by low size n m ms false is above below r rest =
    let behind : n ≤ m = grind (arith, nat_tests) in
    rw is (rises_joined low size n (without n (m ∷ ms)) (record { from = above; below = below; rest = rise_higher_by low size n m ms (m == n) refl behind r }))

pub rise_with : (low size n : ℕ) (ms : List ℕ) → low ≤ n → n < size → rise low size ms ≡ true → rise low size (with_number n ms) ≡ true
rise_with low size n [] above below rises = rises_joined low size n [] (record { from = above; below = below; rest = refl })
rise_with low size n (m ∷ ms) above below rises =
    let r : Rises low size m ms = rises_parts low size m ms rises in
    rise_with_by low size n m ms (nat_lt m n) refl above below r (λ before. rise_with (suc m) size n ms (omega arith) below r.rest)
