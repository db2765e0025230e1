-- What becomes of who is told a message's pieces.
use Rattle.std.proofs.Common.{◌≡◌, ◌∙◌, ◌≤◌, ◌<◌, ◌+◌, inl, inr, ℕ, List, [], ◌∷◌, ◌++◌, length, append-nil, append_assoc, ap, arith, sym, Result, Ok, Err}
use Rattle.std.proofs.lemmas.List.{length-append}
use Rattle.nas_layout.specs.Pieces.{Piece, piece_octets, pieces_octets}
use Rattle.nas_layout.specs.Sizes.{IsFull, Sum, counted}
use Rattle.nas_layout.specs.Telling.{HearsAll, Overflows, RefusesOne, appended, with_pieces}
use Rattle.nas_base.specs.Writing.{Writes}
use Rattle.nas_base.specs.declared.writer.Full.{Full}

-- the octets of all are counted
pub counted_octets : (s : Sum) (pieces : List Piece) → (with_pieces counted s pieces).octets ≡ s.octets + length (pieces_octets pieces)
counted_octets s [] = omega arith
counted_octets s (piece ∷ pieces) =
    let later = counted_octets (counted s piece) pieces in
    let both = length-append (piece_octets piece) (pieces_octets pieces) in omega arith

-- who counts refuses only where there are many pieces
pub many_refused : (s : Sum) (pieces : List Piece) → RefusesOne counted IsFull s pieces → 16 < s.pieces + length pieces
many_refused s [] h = absurd h
many_refused s (piece ∷ pieces) (inl full) = omega arith
many_refused s (piece ∷ pieces) (inr later) = let more = many_refused (counted s piece) pieces later in omega arith

-- the octets of all are written
pub appended_octets : (written : List ℕ) (pieces : List Piece) → with_pieces appended written pieces ≡ written ++ pieces_octets pieces
appended_octets written [] = sym (append-nil written)
appended_octets written (piece ∷ pieces) =
    appended_octets (written ++ piece_octets piece) pieces ∙ append_assoc written (piece_octets piece) (pieces_octets pieces)

-- and one is refused only where they don't all fit
pub overflown : (written : List ℕ) (pieces : List Piece) → RefusesOne appended Overflows written pieces → 4096 < length written + length (pieces_octets pieces)
overflown written [] h = absurd h
overflown written (piece ∷ pieces) (inl full) =
    let both = length-append (piece_octets piece) (pieces_octets pieces) in omega (arith, full)
overflown written (piece ∷ pieces) (inr later) =
    let more = overflown (written ++ piece_octets piece) pieces later in
    let both = length-append (piece_octets piece) (pieces_octets pieces) in
    let before = length-append written (piece_octets piece) in omega arith

-- A head and the pieces behind it are written together, where there is room for both.
pub written_behind : {T : Type 0} (head old middle new : List ℕ) (pieces : List Piece) (r : Result T Full) → middle ≡ old ++ head
    → length old + (length head + length (pieces_octets pieces)) ≤ 4096 → HearsAll appended Overflows middle new pieces r
    → Writes (head ++ pieces_octets pieces) old new r
written_behind head old middle new pieces (Ok t) is room h =
    let all = length-append head (pieces_octets pieces) in
    (omega arith, h ∙ appended_octets middle pieces ∙ ap (λ (os : List ℕ). os ++ pieces_octets pieces) is ∙ append_assoc old head (pieces_octets pieces))
written_behind head old middle new pieces (Err e) is room h =
    let over = overflown middle pieces h in
    let size = length-append old head in
    let same = ap length is in absurd (omega arith)
