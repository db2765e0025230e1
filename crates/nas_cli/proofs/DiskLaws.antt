-- A reader is read piece by piece.
use Rattle.std.proofs.Common.{◌≡◌, ◌∙◌, ℕ, ◌+◌, List, [], ◌++◌, Option, take, length, ap, subst, append-nil, length-append}
use Rattle.std.proofs.KnownBytes.{Consumes-nil, Consumes-trans}
use Rattle.std.specs.Io.KnownBytes.{Consumes}
use Rattle.nas_cli.specs.Disk.{Takes}

-- at first nothing was taken
pub takes_nothing : (a : Option (List ℕ)) → Consumes a a []
takes_nothing = Consumes-nil

-- a piece behind what was taken
pub takes_more : (a b c : Option (List ℕ)) (items piece : List ℕ) → Consumes a b items → Consumes b c piece → Consumes a c (items ++ piece)
takes_more = Consumes-trans

-- no piece behind it
pub takes_all : (a b c : Option (List ℕ)) (items piece : List ℕ) → Consumes a b items → Consumes b c (take 0 piece) → Consumes a c items
takes_all a b c items piece first last = subst (Consumes a c) (append-nil items) (Consumes-trans a b c items [] first last)

-- how many that are
pub takes_size : (a b c : Option (List ℕ)) (items piece : List ℕ) (count : ℕ) → Consumes a b items → Consumes b c piece → length piece ≡ count →
    Takes a c (length items + count)
takes_size a b c items piece count first second same = record {
  taken = items ++ piece;
  count = length-append items piece ∙ ap (λ n. length items + n) same;
  consumed = Consumes-trans a b c items piece first second;
}
