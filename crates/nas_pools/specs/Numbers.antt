-- Lists of numbers in rising order, and the least number that is not in one.
use Rattle.std.specs.Prelude.{ℕ, zero, suc, Bool, true, false, List, [], ◌∷◌, nat_lt, nat_le, ◌==◌, ◌&&◌, ◌||◌, Option, Some, None, if◌then◌else◌}

-- how many numbers there are, from 0 on, and those that are taken
pub record NumbersParts : Type 0 where
  pub size : ℕ
  pub taken : List ℕ

-- the number is one of them
abbrev pub is_in : ℕ → List ℕ → Bool
is_in n [] = false
is_in n (m ∷ ms) = m == n || is_in n ms

-- the others
abbrev pub without : ℕ → List ℕ → List ℕ
without n [] = []
without n (m ∷ ms) = if m == n then without n ms else m ∷ without n ms

-- the others, and the number in its place
abbrev pub with_number : ℕ → List ℕ → List ℕ
with_number n [] = n ∷ []
with_number n (m ∷ ms) = if nat_lt m n then m ∷ with_number n ms else n ∷ without n (m ∷ ms)

-- the first of so many numbers, from this one on, that fails the test
abbrev pub first_failing : (ℕ → Bool) → ℕ → ℕ → Option ℕ
first_failing test from zero = None
first_failing test from (suc count) = if test from then first_failing test (suc from) count else Some from

-- the least number below the size that is not in the list
abbrev pub least_free : ℕ → List ℕ → Option ℕ
least_free size taken = first_failing (λ n. is_in n taken) 0 size

-- each is from this number on, below the size, and above the one before it
abbrev pub rise : ℕ → ℕ → List ℕ → Bool
rise from size [] = true
rise from size (n ∷ ns) = nat_le from n && nat_lt n size && rise (suc n) size ns
