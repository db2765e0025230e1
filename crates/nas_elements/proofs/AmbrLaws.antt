-- The session AMBR: where octets stop being the front of one, and what is written is read back.
use Rattle.std.proofs.Common.{◌≡◌, ◌<◌, ◌^◌, ℕ, List, [], ◌∷◌, length, min, Some, arith, refl}
use Rattle.std.proofs.lemmas.Bool.Decides.{nat_tests}
use Rattle.byteorder.specs.Endian.{big_bytes}
use Rattle.byteorder.specs.Numbers.{big_number-reads_back}
use Rattle.nas_elements.specs.Ambr.{ambr_in, ambr_octets}
use Rattle.nas_elements.specs.Reads.{IsWrongAt}
use Rattle.nas_elements.specs.declared.ambr.Ambr.{Ambr}
use Rattle.nas_elements.proofs.Sized.{wrong_number}

pub wrong_ambr : (octets : List ℕ) → IsWrongAt ambr_in octets (min (length octets) 6)
wrong_ambr octets = wrong_number ambr_in 6 octets (λ os h. grind (arith, nat_tests)) (λ os h. grind (arith, nat_tests))

pub ambr_back : (a : Ambr) → a.down < 256 ^ 2 → a.up < 256 ^ 2 → ambr_in (ambr_octets a) ≡ Some a
ambr_back a down up = rw (big_number-reads_back 2 a.down (a.up_unit ∷ big_bytes 2 a.up) down, big_number-reads_back 2 a.up [] up) refl
