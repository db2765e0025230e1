-- Values of half an octet (TS 24.007 clause 11.2.1.1).
use Rattle.std.specs.Prelude.{ℕ, ◌%◌, List, [], ◌∷◌, slice_index, Option, Some}

-- bits 1 to 4 of the octet; the other half is an identifier's, another value's or spare
abbrev pub half_in : List ℕ → Option ℕ
half_in octets = Some (slice_index octets 0 % 16)

-- alone in its octet, under a spare half 0
abbrev pub half_octets : ℕ → List ℕ
half_octets half = half ∷ []
