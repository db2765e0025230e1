-- The UE security capability (TS 24.501 clause 9.11.3.54).
use Rattle.std.specs.Prelude.{ℕ, ◌-◌, ◌/◌, ◌%◌, ◌^◌, ◌==◌, Bool, List, length, slice_index, nat_le, nat_lt, ◌&&◌, Option, Some, None, if◌then◌else◌}

-- 2 to 8 octets
abbrev pub capability_in : List ℕ → Option (List ℕ)
capability_in octets = if nat_le 2 (length octets) && nat_le (length octets) 8 then Some octets else None

-- the algorithm of a number from 0 to 7 stands in bit 8 to bit 1 of an octet
abbrev pub has_bit : ℕ → ℕ → Bool
has_bit octet number = octet / 2 ^ (7 - number) % 2 == 1

-- 5G-EA0 to 5G-EA7 stand in the first octet, 5G-IA0 to 5G-IA7 in the second
abbrev pub has_ea : ℕ → List ℕ → Bool
has_ea number capability = nat_lt number 8 && has_bit (slice_index capability 0) number

abbrev pub has_ia : ℕ → List ℕ → Bool
has_ia number capability = nat_lt number 8 && has_bit (slice_index capability 1) number
