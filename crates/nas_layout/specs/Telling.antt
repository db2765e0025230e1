-- A message is told piece by piece: to who counts its octets, to who writes them, to who shows them.
use Rattle.std.specs.Prelude.{◌≡◌, ◌<◌, ◌⊎◌, ℕ, ◌+◌, List, [], ◌∷◌, ◌++◌, length, Result, Ok, Err}
use Rattle.nas_layout.specs.Pieces.{Piece, piece_octets}

-- a listener was told a piece, or refused it
abbrev pub Hears : {S T R : Type 0} → (S → Piece → S) → (S → Piece → Type 0) → S → S → Piece → Result T R → Type 0
Hears with_piece Refuses old new piece (Ok _) = new ≡ with_piece old piece
Hears with_piece Refuses old new piece (Err _) = Refuses old piece

-- what it is once it was told these pieces one after the other
abbrev pub with_pieces : {S : Type 0} → (S → Piece → S) → S → List Piece → S
with_pieces with_piece s [] = s
with_pieces with_piece s (piece ∷ pieces) = with_pieces with_piece (with_piece s piece) pieces

-- one of them it refuses
abbrev pub RefusesOne : {S : Type 0} → (S → Piece → S) → (S → Piece → Type 0) → S → List Piece → Type 0
RefusesOne with_piece Refuses s [] = ⊥
RefusesOne with_piece Refuses s (piece ∷ pieces) = Refuses s piece ⊎ RefusesOne with_piece Refuses (with_piece s piece) pieces

-- a listener was told these pieces, or refused one
abbrev pub HearsAll : {S T R : Type 0} → (S → Piece → S) → (S → Piece → Type 0) → S → S → List Piece → Result T R → Type 0
HearsAll with_piece Refuses old new pieces (Ok _) = new ≡ with_pieces with_piece old pieces
HearsAll with_piece Refuses old new pieces (Err _) = RefusesOne with_piece Refuses old pieces

-- a writer appends the octets of a piece, and refuses a piece that doesn't fit into 4,096 octets
abbrev pub appended : List ℕ → Piece → List ℕ
appended written piece = written ++ piece_octets piece

abbrev pub Overflows : List ℕ → Piece → Type 0
Overflows written piece = 4096 < length written + length (piece_octets piece)
