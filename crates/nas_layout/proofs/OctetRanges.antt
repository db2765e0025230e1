-- What a slice of octets holds are octets.
use Rattle.std.proofs.Common.{ℕ, List, arith, Fits, w8}
use Rattle.std.proofs.Math.ListN.{get_or}
use Rattle.std.proofs.lemmas.Grind.{get_or_default_zero}
use Rattle.nas_layout.specs.Laws.{AreOctets}

pub are_octets : (octets : List ℕ) → ((i : ℕ) → Fits w8 (get_or octets i 0)) → AreOctets octets
are_octets octets fits k d within =
    let same = get_or_default_zero octets k d within in
    let small = fits k in
    omega arith
