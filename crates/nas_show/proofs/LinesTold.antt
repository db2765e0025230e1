-- Pieces that were told have their lines.
use Rattle.std.proofs.Common.{◌≡◌, ◌∙◌, ℕ, List, [], ◌∷◌, ◌++◌, append-nil, append_assoc, sym}
use Rattle.nas_layout.specs.Pieces.{Piece}
use Rattle.nas_layout.specs.Telling.{with_pieces}
use Rattle.nas_show.specs.Lines.{lines, piece_text, with_line}

pub lines_told : (text : List ℕ) (pieces : List Piece) → with_pieces with_line text pieces ≡ text ++ lines pieces
lines_told text [] = sym (append-nil text)
lines_told text (piece ∷ pieces) = lines_told (text ++ piece_text piece) pieces ∙ append_assoc text (piece_text piece) (lines pieces)
