-- What the parts and elements of 5GSM messages read as, where that is no element of its own (TS 24.501 clause 9.11.4).
use Rattle.std.specs.Prelude.{ℕ, ◌%◌, List, [], ◌∷◌, slice_index, Option, Some}
use Rattle.nas_layout.specs.Coding.{Coding, value}
use Rattle.nas_layout.specs.Parts.{low_half, one_octet}

-- 5GSM's extended protocol discriminator, PDU session identity, procedure transaction identity, message type (clauses 9.2, 9.4, 9.6
-- and 9.7)
abbrev pub head : ℕ → ℕ → ℕ → List ℕ
head psi pti kind = 0x2e ∷ psi ∷ pti ∷ kind ∷ []

-- PDU session type in a half: bits 1 to 3; bit 4 is always written as 0, and passed over (clause 9.11.4.11)
abbrev pub session_type_of : ℕ → ℕ
session_type_of half = half % 8

-- the same in the low half of one octet
abbrev pub session_type_in : List ℕ → Option ℕ
session_type_in octets = Some (session_type_of (low_half (slice_index octets 0)))

abbrev pub session_type : Coding ℕ
session_type = value session_type_in one_octet
