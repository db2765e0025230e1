-- What holds of each octet, as it is computed of all 256.
use Rattle.std.proofs.Common.{◌≡◌, refl, sym, ap, ◌∙◌, ℕ, ◌*◌, ◌/◌, ◌%◌, ◌<◌, List, map, get_or, bit_xor, arith}
use Rattle.std.specs.List.{range_with_len}
use Rattle.std.proofs.lemmas.List.FromFn.{get_or-map-range_with_len}
use Rattle.aes_cmac.specs.declared.substitution.TheConstants.{SUBSTITUTION}
use Rattle.aes_cmac.specs.Field.{◌•◌, inverse}
use Rattle.aes_cmac.specs.Aes.{sub}

abbrev pub all_octets : List ℕ
all_octets = range_with_len 0 256

-- two functions that give the same on all of them give the same on each
pub on_each : (f g : ℕ → ℕ) → map f all_octets ≡ map g all_octets → (a : ℕ) → a < 256 → f a ≡ g a
on_each f g all a h =
    sym (get_or-map-range_with_len f 0 256 a a 0 h (omega arith))
    ∙ ap (λ (xs : List ℕ). get_or xs a 0) all
    ∙ get_or-map-range_with_len g 0 256 a a 0 h (omega arith)

-- a list of what a function gives of 0, 1, .. up to n has at each place what the function gives of it
pub at_each : (f : ℕ → ℕ) (n : ℕ) (xs : List ℕ) → xs ≡ map f (range_with_len 0 n) → (a : ℕ) → a < n → get_or xs a 0 ≡ f a
at_each f n xs all a h = ap (λ (ys : List ℕ). get_or ys a 0) all ∙ get_or-map-range_with_len f 0 n a a 0 h (omega arith)

pub SUBSTITUTION_lem : SUBSTITUTION ≡ map sub all_octets
unfolding ◌•◌ inverse sub
SUBSTITUTION_lem = refl

pub substitution_at : (a : ℕ) → a < 256 → get_or SUBSTITUTION a 0 ≡ sub a
substitution_at a h = at_each sub 256 SUBSTITUTION SUBSTITUTION_lem a h

pub twice_all : map (λ a. bit_xor (a * 2 % 256) (a / 128 * 27)) all_octets ≡ map (λ a. 2 • a) all_octets
unfolding ◌•◌
twice_all = refl

pub twice : (a : ℕ) → a < 256 → bit_xor (a * 2 % 256) (a / 128 * 27) ≡ 2 • a
twice a h = on_each (λ b. bit_xor (b * 2 % 256) (b / 128 * 27)) (λ b. 2 • b) twice_all a h

pub thrice_all : map (λ a. bit_xor (2 • a) a) all_octets ≡ map (λ a. 3 • a) all_octets
unfolding ◌•◌
thrice_all = refl

pub thrice : (a : ℕ) → a < 256 → bit_xor (2 • a) a ≡ 3 • a
thrice a h = on_each (λ b. bit_xor (2 • b) b) (λ b. 3 • b) thrice_all a h
