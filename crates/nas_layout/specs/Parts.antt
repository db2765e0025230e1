-- What parts and elements read as, where that is no element of its own (TS 24.007 clause 11.2.1.1).
use Rattle.std.specs.Prelude.{ℕ, ◌/◌, ◌%◌, List, [], ◌∷◌, length, slice_index, nat_le, ◌==◌, Option, Some, None, if◌then◌else◌}

-- the one octet of a part or of an element of fixed length: any
abbrev pub octet_in : List ℕ → Option ℕ
octet_in octets = Some (slice_index octets 0)

abbrev pub one_octet : ℕ → List ℕ
one_octet octet = octet ∷ []

-- the two halves of an octet: bits 1 to 4, and bits 5 to 8
abbrev pub low_half : ℕ → ℕ
low_half octet = octet % 16

abbrev pub high_half : ℕ → ℕ
high_half octet = octet / 16

-- ngKSI in an octet: bits 1 to 3
abbrev pub ksi_in : List ℕ → Option ℕ
ksi_in octets = Some (slice_index octets 0 % 8)

-- any octets, up to as many as are kept
abbrev pub container_in : List ℕ → Option (List ℕ)
container_in octets = if nat_le (length octets) 4100 then Some octets else None

-- so many octets and no others
abbrev pub exactly : ℕ → List ℕ → Option (List ℕ)
exactly n octets = if length octets == n then Some octets else None
