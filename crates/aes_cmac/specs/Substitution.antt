-- The substitution and its inverse (FIPS 197, whose sections the numbers name).
use Rattle.std.specs.Prelude.{◌≡◌, ℕ, ◌+◌, ◌*◌, ◌%◌, ◌^◌, ◌<◌, ◌≤◌, slice_index}
use Rattle.std.specs.Int.{bit_at, sum_through}
use Rattle.aes_cmac.specs.declared.substitution.TheConstants.{SUBSTITUTION}
use Rattle.aes_cmac.specs.Field.{◌•◌, inverse}
use Rattle.aes_cmac.specs.Aes.{sub}

-- bit i of the octet whose affine map is b, and the octet whose substitution is b: the inverse of that octet (5.3.2)
abbrev pub affine_back_bit : ℕ → ℕ → ℕ
affine_back_bit b i = (bit_at b ((i + 2) % 8) + bit_at b ((i + 5) % 8) + bit_at b ((i + 7) % 8) + bit_at 0x05 i) % 2

unfoldable pub sub_back : ℕ → ℕ
sub_back b = inverse (sum_through (λ i. affine_back_bit b i * 2 ^ i) 7)

-- The table of the code is the substitution: the affine map of the inverse. That is the field's: each octet but 0 times its
-- inverse is 1. And the substitution can be undone.
pub record SubstitutionHasInverse : Type 0 where
  pub table : (a : ℕ) → a < 256 → slice_index SUBSTITUTION a ≡ sub a
  pub inverse : (a : ℕ) → 1 ≤ a → a < 256 → a • inverse a ≡ 1
  pub undone : (a : ℕ) → a < 256 → sub_back (sub a) ≡ a
