-- What octets are told by before they are read as a message (TS 24.501 clause 9.1.1).
use Rattle.std.specs.Prelude.{ℕ, Bool, ◌==◌, ◌%◌, List, length, drop, slice_index_or, nat_lt}

-- an octet, 0 where there is none
abbrev pub octet_at : List ℕ → ℕ → ℕ
octet_at octets index = slice_index_or octets index 0

-- the extended protocol discriminator of 5GS mobility management (clause 9.2)
abbrev pub is_mm : List ℕ → Bool
is_mm octets = octet_at octets 0 == 0x7e

-- the security header type (clause 9.3)
abbrev pub header_of : List ℕ → ℕ
header_of octets = octet_at octets 1 % 16

-- the message type of plain octets (clause 9.7)
abbrev pub type_of : List ℕ → ℕ
type_of octets = octet_at octets 2

-- 5GMM STATUS, which is never answered (clause 7.5.1)
abbrev pub five_gmm_status : ℕ
five_gmm_status = 0x64

-- a message has at most 4,096 octets
abbrev pub is_too_many : List ℕ → Bool
is_too_many octets = nat_lt 4096 (length octets)

-- what stands behind the head of a frame
abbrev pub inside : List ℕ → List ℕ
inside octets = drop 7 octets
