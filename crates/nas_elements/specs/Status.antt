-- The PDU session status (TS 24.501 clause 9.11.3.44): for each of the identities 1 to 15 whether it is in the set, as 15 tests
-- of which the k-th, counted from 0, tells of identity k + 1.
use Rattle.std.specs.Prelude.{ℕ, zero, suc, ◌+◌, ◌-◌, ◌*◌, ◌/◌, ◌%◌, ◌==◌, ◌&&◌, Bool, true, false, List, [], ◌∷◌, ◌++◌, take, drop, slice_index_or, slice_set, Option, Some, None, if◌then◌else◌}

-- the lowest bits of an octet, from bit 1 on
abbrev pub bits : ℕ → ℕ → List Bool
bits zero octet = []
bits (suc count) octet = (octet % 2 == 1) ∷ bits count (octet / 2)

-- the number that has these bits
abbrev pub number : List Bool → ℕ
number [] = 0
number (bit ∷ higher) = (if bit then 1 else 0) + 2 * number higher

-- identities 1 to 7 stand in bits 2 to 8 of the first octet, 8 to 15 in bits 1 to 8 of the second; more octets may follow
abbrev pub status_in : List ℕ → Option (List Bool)
status_in (first ∷ second ∷ rest) = Some (bits 7 (first / 2) ++ bits 8 second)
status_in octets = None

-- as a set is written: two octets, the lowest bit 0
abbrev pub status_octets : List Bool → List ℕ
status_octets held = (2 * number (take 7 held)) ∷ number (drop 7 held) ∷ []

-- the empty set
abbrev pub no_session : List Bool
no_session = bits 15 0

-- whether an identity is in the set, and the set with it and without it
abbrev pub has : ℕ → List Bool → Bool
has psi held = slice_index_or held (psi - 1) false

abbrev pub with_session : ℕ → List Bool → List Bool
with_session psi held = slice_set held (psi - 1) true

abbrev pub without_session : ℕ → List Bool → List Bool
without_session psi held = slice_set held (psi - 1) false

-- the identities that are in both of two sets
abbrev pub both : List Bool → List Bool → List Bool
both [] others = []
both (bit ∷ bits) [] = []
both (bit ∷ bits) (other ∷ others) = (bit && other) ∷ both bits others
