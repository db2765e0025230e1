-- Digits that are compared from the last one.
use Rattle.std.proofs.Common.{◌≡◌, ℕ, ◌==◌, ◌&&◌, List, slice_index_or, arith}
use Rattle.std.proofs.lemmas.Bool.Decides.{nat_tests}
use Rattle.std.proofs.lemmas.Slice.Eq.{bytes_eq-Decides}
use Rattle.std.specs.Str.{bytes_eq}

-- digits that differ in the last one aren't equal
pub last_digit_first : (one other : List ℕ)
    → (slice_index_or one 14 0 == slice_index_or other 14 0 && bytes_eq one other) ≡ bytes_eq one other
last_digit_first one other = grind (arith, nat_tests, bytes_eq-Decides one other)
