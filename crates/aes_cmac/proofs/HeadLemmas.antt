-- A head of 8 octets, and the octets behind it.
use Rattle.std.proofs.Common.{◌≡◌, sym, ap, ◌∙◌, ℕ, ◌+◌, ◌-◌, ◌<◌, ◌≤◌, List, ◌++◌, length, take, drop, replicate, append_assoc, arith}
use Rattle.std.proofs.Math.Path.{ap₂}
use Rattle.std.proofs.lemmas.List.{append-nil, take_at, drop_at, drop-replicate, length-append, length-take-le, take-append-drop}
use borrow.Rule.Slice.PartMut.{put_mid}
use Rattle.aes_cmac.specs.Blocks.{xor_of}
use Rattle.aes_cmac.specs.Cmac.{zero_block, cmac_from, cmac}
use Rattle.aes_cmac.proofs.CmacLemmas.{cmac_more}

-- octets behind a head take the place of zeros
pub head_filled : (head front : List ℕ) (k : ℕ) → length head ≡ 8 → k ≡ length front
    → put_mid 8 k (head ++ replicate 8 0) front ≡ head ++ (front ++ replicate (8 - length front) 0)
head_filled head front k long e =
    ap₂ (λ (a b : List ℕ). a ++ (front ++ b)) (take_at head (replicate 8 0) 8 long)
    (ap₂ (λ (m : ℕ) (xs : List ℕ). drop m xs) e (drop_at head (replicate 8 0) 8 long) ∙ drop-replicate (length front) 8 0)

-- the first block of a head and more than 8 octets
first_block : (head octets : List ℕ) → length head ≡ 8 → 8 ≤ length octets
    → (take 16 (head ++ octets) ≡ head ++ take 8 octets) × (drop 16 (head ++ octets) ≡ drop 8 octets)
first_block head octets long some =
    let whole : head ++ octets ≡ (head ++ take 8 octets) ++ drop 8 octets =
    ap (λ (a : List ℕ). head ++ a) (sym (take-append-drop 8 octets)) ∙ sym (append_assoc head (take 8 octets) (drop 8 octets)) in
    let size : length (head ++ take 8 octets) ≡ 16 = length-append head (take 8 octets) ∙ ap₂ (λ (a b : ℕ). a + b) long (length-take-le 8 octets some) in
    (ap (take 16) whole ∙ take_at (head ++ take 8 octets) (drop 8 octets) 16 size, ap (drop 16) whole ∙ drop_at (head ++ take 8 octets) (drop 8 octets) 16 size)

pub cmac_behind : (ciph : List ℕ → List ℕ) (head octets block : List ℕ) → length head ≡ 8 → 8 < length octets
    → block ≡ head ++ (take 8 octets ++ replicate (8 - length (take 8 octets)) 0)
    → cmac_from ciph (ciph (xor_of zero_block block)) (drop 8 octets) ≡ cmac ciph (head ++ octets)
cmac_behind ciph head octets block long more e =
    ap₂ (λ (a b : List ℕ). cmac_from ciph (ciph (xor_of zero_block a)) b) block_is (sym parts.1)
    ∙ cmac_more ciph zero_block (head ++ octets) (omega (arith, length-append head octets))
  where
    parts : (take 16 (head ++ octets) ≡ head ++ take 8 octets) × (drop 16 (head ++ octets) ≡ drop 8 octets)
    parts = first_block head octets long (omega arith)

    none : 8 - length (take 8 octets) ≡ 0
    none = omega (arith, length-take-le 8 octets (omega arith))

    block_is : block ≡ take 16 (head ++ octets)
    block_is =
        e ∙ ap (λ m. head ++ (take 8 octets ++ replicate m 0)) none
        ∙ ap (λ (a : List ℕ). head ++ a) (append-nil (take 8 octets)) ∙ sym parts.0
