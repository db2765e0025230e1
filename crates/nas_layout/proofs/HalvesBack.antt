-- What stands in the halves of an octet is read back.
use Rattle.std.proofs.Common.{◌≡◌, ◌<◌, ℕ, arith}
use Rattle.nas_elements.specs.Packed.{two_halves}
use Rattle.nas_layout.specs.Parts.{high_half, low_half}

pub low_back : (low high : ℕ) → low < 16 → low_half (two_halves low high) ≡ low
low_back low high small = omega arith

pub high_back : (low high : ℕ) → low < 16 → high_half (two_halves low high) ≡ high
high_back low high small = omega arith

pub half_back : (half : ℕ) → half < 16 → low_half half ≡ half
half_back half small = omega arith
