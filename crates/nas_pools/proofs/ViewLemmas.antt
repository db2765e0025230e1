-- What bits of words show: the numbers below the size whose bits are 1.
use Rattle.std.proofs.Common.{◌≡◌, ◌<◌, ◌≤◌, ◌/◌, ℕ, false, List, [], length, replicate, arith, ap, sym}
use Rattle.nas_pools.specs.Bits.{cleared, is_marked, marked, passing}
use Rattle.nas_pools.specs.Numbers.{NumbersParts, is_in, with_number, without}
use Rattle.nas_pools.proofs.BitLemmas.{cleared_changed, marked_changed}
use Rattle.nas_pools.proofs.FreshLemmas.{none_pass}
use Rattle.nas_pools.proofs.PassingLemmas.{in_above, with_passing, without_passing}

abbrev pub shown : ℕ → List ℕ → NumbersParts
shown size taken = record { size = size; taken = taken }

abbrev pub numbers_in : ℕ → List ℕ → NumbersParts
numbers_in size words = shown size (passing (is_marked words) 0 size)

pub shown_marked : (size n : ℕ) (words : List ℕ) → n < size → n / 64 < length words →
    numbers_in size (marked n words) ≡ shown size (with_number n (passing (is_marked words) 0 size))
shown_marked size n words h there =
    ap (shown size) (sym (with_passing (is_marked words) (is_marked (marked n words)) 0 size n (marked_changed n words there) (omega arith) (omega arith)))

pub shown_cleared : (size n : ℕ) (words : List ℕ) → n < size → n / 64 < length words →
    numbers_in size (cleared n words) ≡ shown size (without n (passing (is_marked words) 0 size))
shown_cleared size n words h there =
    ap (shown size) (sym (without_passing (is_marked words) (is_marked (cleared n words)) 0 size n (cleared_changed n words there) (omega arith) (omega arith)))

pub shown_fresh : (size count : ℕ) → numbers_in size (replicate count 0) ≡ shown size []
shown_fresh size count = ap (shown size) (none_pass count 0 size)

pub not_shown : (size n : ℕ) (words : List ℕ) → size ≤ n → is_in n (passing (is_marked words) 0 size) ≡ false
not_shown size n words h = in_above (is_marked words) 0 size n (omega arith)
