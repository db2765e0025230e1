-- Identities that are kept as their octets (TS 24.501 clause 9.11.3.4).
use Rattle.std.specs.Prelude.{Bool, ℕ, not, List, length, slice_index, nat_le, ◌==◌, ◌&&◌, if◌then◌else◌}
use Rattle.nas_elements.specs.Guti.{type_of_identity}

-- Behind a first octet 01 (an IMSI's SUCI) the scheme in octet 7 isn't the null scheme. Another first octet tells another
-- SUPI format, or an identity that is neither a GUTI nor an S-TMSI.
abbrev pub is_kept : List ℕ → Bool
is_kept octets =
    if slice_index octets 0 == 0x01 then nat_le 7 (length octets) && not (slice_index octets 6 == 0)
    else not (type_of_identity octets == 2) && not (type_of_identity octets == 4)

-- as many octets as are kept
abbrev pub is_other : List ℕ → Bool
is_other octets = nat_le 1 (length octets) && nat_le (length octets) 4100 && is_kept octets
