-- How many octets pieces have together.
use Rattle.std.specs.Prelude.{◌≡◌, ◌≤◌, ℕ, ◌+◌, ◌*◌, length, Result, Ok, Err}
use Rattle.nas_layout.specs.Pieces.{Piece, piece_octets}

-- the octets of so many pieces
pub record Sum : Type 0 where
  pub octets : ℕ
  pub pieces : ℕ

-- at most 16 pieces, none of which has more octets than the longest that is told
pub record IsSize (octets pieces : ℕ) : Type 0 where
  pub few : pieces ≤ 16
  pub short : octets ≤ 4103 * pieces

abbrev pub with_octets : ℕ → Sum → Sum
with_octets octets s = record { octets = s.octets + octets; pieces = s.pieces + 1 }

-- one piece more, or none where there are 16
abbrev pub counted : Sum → Piece → Sum
counted s piece = with_octets (length (piece_octets piece)) s

abbrev pub IsFull : Sum → Piece → Type 0
IsFull s piece = 16 ≤ s.pieces

abbrev pub Counts : {T R : Type 0} → ℕ → Sum → Sum → Result T R → Type 0
Counts octets old new (Ok _) = new ≡ with_octets octets old
Counts octets old new (Err _) = 16 ≤ old.pieces
