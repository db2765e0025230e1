-- Which octets spell a message of a table, without saying how they are read.
use Rattle.std.specs.Prelude.{◌≡◌, ◌≤◌, ℕ, List, ◌++◌, length, Option, Some}
use Rattle.nas_base.specs.Walking.{elements_in, firsts}
use Rattle.nas_layout.specs.Pieces.{framed}
use Rattle.nas_layout.specs.Table.{Table, elements, gathered, part, rows}
use Rattle.nas_layout.specs.declared.frame.Frame.{Frame}
use Rattle.nas_layout.specs.declared.frame.Frame.TheVariants.{V, Lv, Lve}

-- how many octets may be in a frame
abbrev pub Fits : Frame → List ℕ → Type 0
Fits (V n) octets = length octets ≡ n
Fits Lv octets = length octets ≤ 255
Fits Lve octets = length octets ≤ 65535

-- Octets spell a message of a table: they are its parts' octets one after the other, each in its frame, and then a tail whose
-- elements make the message.
pub record PartSpells {P : Type 0} (frame : Frame) (reading : List ℕ → Option P) (rests : P → List ℕ → Type 0) (octets : List ℕ) : Type 0 where
  pub piece : List ℕ
  pub rest : List ℕ
  pub value : P
  pub whole : octets ≡ framed frame piece ++ rest
  pub fits : Fits frame piece
  pub means : reading piece ≡ Some value
  pub behind : rests value rest

abbrev pub Spells : {A : Type 0} → Table A → List ℕ → A → Type 0
Spells (part frame coding from next) octets m = PartSpells frame coding.reading (λ x rest. Spells (next x) rest m) octets
Spells (elements es) octets m = m ≡ gathered (firsts (rows es) (elements_in (rows es) octets)) es
