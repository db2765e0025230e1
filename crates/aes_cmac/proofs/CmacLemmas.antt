-- CMAC, block by block.
use Rattle.std.proofs.Common.{◌≡◌, refl, sym, ap, ◌∙◌, ℕ, zero, suc, ◌*◌, ◌/◌, ◌%◌, ◌^◌, ◌<◌, ◌≤◌, bit_xor, nat_lt, List, length, take, drop, ⊎_elim, arith}
use Rattle.std.proofs.Math.Path.{ap₂}
use Rattle.std.proofs.lemmas.List.{length-drop, drop-drop}
use Rattle.std.proofs.lemmas.Bool.{cases_lt, lt-ltb, le-ltb, cond-true, cond-false}
use Rattle.std.specs.Int.Bits.{xor_zero_r}
use Rattle.aes_cmac.specs.Blocks.{xor_of, block_at}
use Rattle.aes_cmac.specs.Cmac.{doubled_number, last_block, chained, blocks_before_last, cmac_from}

-- the block behind the next one is the next one behind a block
block_at_more : (octets : List ℕ) (i : ℕ) → block_at octets (suc i) ≡ block_at (drop 16 octets) i
block_at_more octets i = ap (take 16) (sym (drop-drop (16 * i) 16 octets ∙ ap (λ m. drop m octets) (omega arith)))

chained_more : (ciph : List ℕ → List ℕ) (x octets : List ℕ) (n : ℕ)
    → chained ciph x octets (suc n) ≡ chained ciph (ciph (xor_of x (take 16 octets))) (drop 16 octets) n
unfolding chained
chained_more ciph x octets zero = refl
chained_more ciph x octets (suc n) = ap₂ (λ (a b : List ℕ). ciph (xor_of a b)) (chained_more ciph x octets n) (block_at_more octets n)

one_before_more : (octets : List ℕ) → 16 < length octets → blocks_before_last octets ≡ suc (blocks_before_last (drop 16 octets))
one_before_more octets long = omega (arith, length-drop 16 octets)

-- a block that isn't the last one goes into the sum
pub cmac_more : (ciph : List ℕ → List ℕ) (x octets : List ℕ) → 16 < length octets
    → cmac_from ciph (ciph (xor_of x (take 16 octets))) (drop 16 octets) ≡ cmac_from ciph x octets
unfolding cmac_from
cmac_more ciph x octets long =
    let n : ℕ = blocks_before_last (drop 16 octets) in
    ap₂ (λ (a b : List ℕ). ciph (xor_of a (last_block ciph b))) (sym (chained_more ciph x octets n))
    (drop-drop (16 * n) 16 octets ∙ ap (λ m. drop m octets) (omega arith))
    ∙ ap (λ m. ciph (xor_of (chained ciph x octets m) (last_block ciph (drop (16 * m) octets)))) (sym (one_before_more octets long))

none_before : (octets : List ℕ) → length octets ≤ 16 → blocks_before_last octets ≡ 0
none_before octets short = omega arith

-- one block is the last one
pub cmac_last : (ciph : List ℕ → List ℕ) (x octets : List ℕ) → length octets ≤ 16 → cmac_from ciph x octets ≡ ciph (xor_of x (last_block ciph octets))
unfolding cmac_from chained
cmac_last ciph x octets short = rw (none_before octets short) refl

pub twice_number : (n : ℕ) → n < 2 ^ 128 → bit_xor (n * 2 % 2 ^ 128) (n / 2 ^ 127 * 135) ≡ doubled_number n
twice_number n within = ⊎_elim low high (cases_lt n (2 ^ 127))
  where
    low : n < 2 ^ 127 → bit_xor (n * 2 % 2 ^ 128) (n / 2 ^ 127 * 135) ≡ doubled_number n
    low below =
        let shifted : n * 2 % 2 ^ 128 ≡ 2 * n = omega arith in
        let none : n / 2 ^ 127 * 135 ≡ 0 = omega arith in
        ap₂ bit_xor shifted none
        ∙ xor_zero_r (2 * n) ∙ sym (cond-true (nat_lt n (2 ^ 127)) (2 * n) (bit_xor (2 * n % 2 ^ 128) 135) (lt-ltb n (2 ^ 127) below))

    high : 2 ^ 127 ≤ n → bit_xor (n * 2 % 2 ^ 128) (n / 2 ^ 127 * 135) ≡ doubled_number n
    high above =
        let shifted : n * 2 % 2 ^ 128 ≡ 2 * n % 2 ^ 128 = omega arith in
        let one : n / 2 ^ 127 * 135 ≡ 135 = omega arith in
        ap₂ bit_xor shifted one
        ∙ sym (cond-false (nat_lt n (2 ^ 127)) (2 * n) (bit_xor (2 * n % 2 ^ 128) 135) (le-ltb n (2 ^ 127) above))
