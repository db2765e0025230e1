-- Strings of octets, their parts and SQN.
use Rattle.std.proofs.Common.{◌≡◌, refl, ap, ◌∙◌, ℕ, ◌+◌, ◌<◌, ◌≤◌, ◌^◌, List, [], ◌++◌, length, take, drop, true, arith}
use Rattle.std.specs.Str.{bytes_eq}
use Rattle.std.proofs.lemmas.Slice.Eq.{bytes_eq-Decides}
use Rattle.std.proofs.lemmas.List.{append_assoc, length-take, length-drop, take_at, drop_at, take_all}
use Rattle.byteorder.specs.Numbers.{big_number-reads_back}
use Rattle.milenage.specs.Octets.{part}
use Rattle.milenage.specs.Autn.{sqn_number, sqn_octets}

pub bytes_eq-self : (x : List ℕ) → bytes_eq x x ≡ true
bytes_eq-self x = (bytes_eq-Decides x x).1 refl

pub length-part : (from count : ℕ) (x : List ℕ) → from + count ≤ length x → length (part from count x) ≡ count
length-part from count x h = omega (arith, length-take count (drop from x), length-drop from x)

-- the first, the last and the middle of strings one behind the other
pub part_first : (n : ℕ) (x y : List ℕ) → length x ≡ n → part 0 n (x ++ y) ≡ x
part_first n x y h = take_at x y n h

pub part_front : (n : ℕ) (x y z : List ℕ) → length x ≡ n → part 0 n ((x ++ y) ++ z) ≡ x
part_front n x y z h = ap (part 0 n) (append_assoc x y z) ∙ part_first n x (y ++ z) h

pub part_last : (from n : ℕ) (x y : List ℕ) → length x ≡ from → length y ≡ n → part from n (x ++ y) ≡ y
part_last from n x y front back = ap (take n) (drop_at x y from front) ∙ take_all n y (omega arith)

pub part_middle : (from n : ℕ) (x y z : List ℕ) → length x ≡ from → length y ≡ n → part from n ((x ++ y) ++ z) ≡ y
part_middle from n x y z front back =
    ap (part from n) (append_assoc x y z) ∙ ap (take n) (drop_at x (y ++ z) from front) ∙ take_at y z n back

pub length-sqn_octets : (n : ℕ) → length (sqn_octets n) ≡ 6
unfolding sqn_octets
length-sqn_octets n = refl

pub sqn_number-sqn_octets : (n : ℕ) → n < 2 ^ 48 → sqn_number (sqn_octets n) ≡ n
unfolding sqn_octets sqn_number
sqn_number-sqn_octets n h = big_number-reads_back 6 n [] h
