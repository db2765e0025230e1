-- Sums of strings.
use Rattle.std.proofs.Common.{◌≡◌, refl, ap, ◌∙◌, ℕ, ◌≤◌, min, List, [], ◌∷◌, ◌++◌, length, bit_xor, arith}
use Rattle.std.proofs.Math.Path.{ap₂}
use Rattle.std.specs.Int.Bits.{xor_assoc, xor_self, xor_zero_r}
use Rattle.aes_cmac.specs.Blocks.{xor_of}

pub length-xor_of : (xs ys : List ℕ) → length (xor_of xs ys) ≡ min (length xs) (length ys)
length-xor_of [] ys = omega arith
length-xor_of (x ∷ xs) [] = omega arith
length-xor_of (x ∷ xs) (y ∷ ys) = omega (arith, length-xor_of xs ys)

-- what is as long is added by itself
pub xor_of-append : (xs ys us vs : List ℕ) → length xs ≡ length us → xor_of (xs ++ ys) (us ++ vs) ≡ xor_of xs us ++ xor_of ys vs
xor_of-append [] ys [] vs e = refl
xor_of-append [] ys (u ∷ us) vs e = absurd (omega arith)
xor_of-append (x ∷ xs) ys [] vs e = absurd (omega arith)
xor_of-append (x ∷ xs) ys (u ∷ us) vs e = ap (λ (zs : List ℕ). bit_xor x u ∷ zs) (xor_of-append xs ys us vs (omega arith))

-- what is added twice is taken away again
pub xor_of-xor_of : (xs ys : List ℕ) → length xs ≤ length ys → xor_of (xor_of xs ys) ys ≡ xs
xor_of-xor_of [] ys within = refl
xor_of-xor_of (x ∷ xs) [] within = absurd (omega arith)
xor_of-xor_of (x ∷ xs) (y ∷ ys) within =
    ap₂ (λ (z : ℕ) (zs : List ℕ). z ∷ zs)
    (xor_assoc x y y ∙ ap (bit_xor x) (xor_self y) ∙ xor_zero_r x)
    (xor_of-xor_of xs ys (omega arith))
