-- The field with 256 elements, GF(2^8) (FIPS 197 section 4, whose parts the numbers name). An element is an octet: bit i of it
-- is the coefficient of x^i.
use Rattle.std.specs.Prelude.{ℕ, zero, suc, ◌*◌, ◌/◌, ◌%◌, bit_xor, nat_lt, if◌then◌else◌}

infixl 6 ◌⊕◌
infixl 7 ◌•◌
-- the sum of two elements (4.1)
abbrev pub ◌⊕◌ : ℕ → ℕ → ℕ
a ⊕ b = bit_xor a b

-- x times an element, modulo x^8 + x^4 + x^3 + x + 1 (4.2)
abbrev pub times_x : ℕ → ℕ
times_x a = if nat_lt a 128 then 2 * a else 2 * a ⊕ 0x11b

-- the product of a, which has n coefficients, and b (4.2)
abbrev pub product : ℕ → ℕ → ℕ → ℕ
product zero a b = 0
product (suc n) a b = a % 2 * b ⊕ times_x (product n (a / 2) b)

unfoldable pub ◌•◌ : ℕ → ℕ → ℕ
a • b = product 8 a b

-- a to the power 1 + 2 + 4 + .., of n summands
abbrev pub power : ℕ → ℕ → ℕ
power zero a = 1
power (suc n) a = a • power n (a • a)

-- the multiplicative inverse, and 0 for 0: a to the power 254 = 2 * (1 + 2 + .. + 64) (4.4)
unfoldable pub inverse : ℕ → ℕ
inverse a = power 7 (a • a)
