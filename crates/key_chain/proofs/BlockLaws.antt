-- Blocks of octets.
use Rattle.std.proofs.Common.{◌≡◌, ℕ, ◌-◌, ◌+◌, ◌<◌, List, ◌++◌, length, take, drop, replicate, set, get_or, bit_xor, arith, ap}
use Rattle.std.proofs.lemmas.List.{drop-replicate, length-append, length-drop, length-map, length-take, get_or_default}
use Rattle.std.proofs.lemmas.List.Edits.{map_over_more}
use Rattle.key_chain.specs.Hmac.{masked}

-- what is left of a block of zeros behind the first n
pub zeros_left : (n : ℕ) → drop n (replicate {A = ℕ} 64 0) ≡ replicate (64 - n) 0
zeros_left n = drop-replicate n 64 0

-- one more octet is masked
pub masked_more : (pad i : ℕ) (block octets : List ℕ) → i < length octets → octets ≡ masked pad (take i block) ++ drop i block → set octets i (bit_xor (get_or octets i 0) pad) ≡ masked pad (take (i + 1) block) ++ drop (i + 1) block
masked_more pad i block octets lt told =
    let same : length octets ≡ length block = grind (arith, ap length told, length-append {A = ℕ}, length-map {A = ℕ} {B = ℕ}, length-take {A = ℕ}, length-drop {A = ℕ}) in
    map_over_more (λ octet. bit_xor octet pad) block octets i (get_or octets i 0) (omega arith) told (get_or_default octets i 0 (get_or octets i 0) lt)
