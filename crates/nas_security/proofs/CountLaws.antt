-- Counts and their estimates.
use Rattle.std.proofs.Common.{◌≡◌, ℕ, ◌+◌, ◌<◌, ◌≤◌, arith}
use Rattle.nas_security.specs.Counts.{IsLeast, estimate, low_octet}

pub estimate_is_least : (next low : ℕ) → low < 256 → IsLeast next low (estimate next low)
estimate_is_least next low small = (omega arith, omega arith, λ m above same. omega arith)

-- the count of a message that isn't too far ahead is the one that its low octet is taken for
pub estimate_near : (next count : ℕ) → next ≤ count → count < next + 256 → count ≡ estimate next (low_octet count)
estimate_near next count from near = omega arith
