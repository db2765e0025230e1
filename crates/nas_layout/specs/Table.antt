-- The table of a message: its mandatory parts, each in its frame, then its elements, each with its identifier and form. What a message
-- is written as, which octets are read as it, and what is shown of it all come from its table (TS 24.007 clauses 11.2.1.1 and 11.2.4,
-- TS 24.501 clauses 8.2 and 8.3).
use Rattle.std.specs.Prelude.{ℕ, suc, Bool, false, ◌||◌, List, [], ◌∷◌, map, Option, Some, None, option_map, Result, Ok, Err}
use Rattle.nas_base.specs.Reading.{Place, Reads, lv_at, lve_at, octets_at}
use Rattle.nas_base.specs.Walking.{Element, RowParts, elements_in, firsts, value_of}
use Rattle.nas_base.specs.declared.shape.Form.{Form}
use Rattle.nas_layout.specs.Coding.{Coding}
use Rattle.nas_layout.specs.Pieces.{Piece, WrittenElement, mandatory, optional}
use Rattle.nas_layout.specs.declared.body.BodyRefusal.{BodyRefusal}
use Rattle.nas_layout.specs.declared.body.BodyRefusal.TheVariants.{Mandatory}
use Rattle.nas_layout.specs.declared.frame.Frame.{Frame}
use Rattle.nas_layout.specs.declared.frame.Frame.TheVariants.{V, Lv, Lve}

-- the elements in the order in which they are written: each with its coding and with its place in the message; those that are known
-- and passed over; in the end the message
pub data Elements (A : Type 0) : Type 1 where
  element : {P : Type 0} → ℕ → Form → Coding P → (A → Option P) → (Option P → Elements A) → Elements A
  passed_over : ℕ → Form → Elements A → Elements A
  message : A → Elements A

-- the parts in their order, then the elements
pub data Table (A : Type 0) : Type 1 where
  part : {P : Type 0} → Frame → Coding P → (A → P) → (P → Table A) → Table A
  elements : Elements A → Table A

-- Writing: the pieces of a message, in the order of its table.
abbrev pub element_pieces : {A : Type 0} → Elements A → A → List WrittenElement
element_pieces (element iei form coding from next) m =
    record { iei = iei; form = form; value = option_map coding.octets (from m) } ∷ element_pieces (next (from m)) m
element_pieces (passed_over iei form rest) m = element_pieces rest m
element_pieces (message x) m = []

abbrev pub pieces : {A : Type 0} → Table A → A → List Piece
pieces (part frame coding from next) m = mandatory frame (coding.octets (from m)) ∷ pieces (next (from m)) m
pieces (elements es) m = map (λ w. optional w) (element_pieces es m)

-- Reading: the rows of the elements, by which a walk finds them.
abbrev pub rows : {A : Type 0} → Elements A → List RowParts
rows (element iei form coding from next) = record { iei = iei; form = form } ∷ rows (next None)
rows (passed_over iei form rest) = record { iei = iei; form = form } ∷ rows rest
rows (message x) = []

-- an element: what its octets read as, where it is there
abbrev pub read_as : {P : Type 0} → (List ℕ → Option P) → Option (List ℕ) → Option P
read_as reading None = None
read_as reading (Some octets) = reading octets

abbrev pub known : {P : Type 0} → ℕ → (List ℕ → Option P) → List Element → Option P
known iei reading es = read_as reading (value_of iei es)

-- the message that the elements make which a walk found
abbrev pub gathered : {A : Type 0} → List Element → Elements A → A
gathered found (element iei form coding from next) = gathered found (next (known iei coding.reading found))
gathered found (passed_over iei form rest) = gathered found rest
gathered found (message x) = x

-- the octets of a part, which begin at a place
abbrev pub cut_at : Frame → Place → Reads (List ℕ)
cut_at (V n) p = octets_at n p
cut_at Lv p = lv_at p
cut_at Lve p = lve_at p

-- a step, and another behind it
infixl 10 ◌>>=◌
abbrev pub ◌>>=◌ : {A B : Type 0} → Result A BodyRefusal → (A → Result B BodyRefusal) → Result B BodyRefusal
(Ok x) >>= f = f x
(Err e) >>= f = Err e

-- the n-th part, which began at this place, where it isn't cut; and its value, where it has one
abbrev pub uncut : {A : Type 0} → ℕ → ℕ → Reads A → Result (A × Place) BodyRefusal
uncut n at (Ok x) = Ok x
uncut n at (Err short) = Err (Mandatory n at)

abbrev pub valued : {P : Type 0} → ℕ → ℕ → Option P → Result P BodyRefusal
valued n at (Some x) = Ok x
valued n at None = Err (Mandatory n at)

abbrev pub part_at : {P : Type 0} → ℕ → Frame → (List ℕ → Option P) → Place → Result (P × Place) BodyRefusal
part_at n frame reading p = do
  octets ← uncut n p.at (cut_at frame p)
  x ← valued n p.at (reading octets.0)
  Ok (x, octets.1)

-- the elements that a walk finds from a place on
abbrev pub found_at : List RowParts → Place → List Element
found_at shape p = firsts shape (elements_in shape p.left)

-- What stands at a place: the message, or the first part that is cut or has no value, counted from n.
abbrev pub laid : {A : Type 0} → Table A → ℕ → Place → Result A BodyRefusal
laid (part frame coding from next) n p = part_at n frame coding.reading p >>= (λ x. laid (next x.0) (suc n) x.1)
laid (elements es) n p = Ok (gathered (found_at (rows es) p) es)

-- Whether a part or an element that stands there is kept as its octets, so that to read it wants memory.
abbrev pub is_some_kept : {P : Type 0} → (P → Bool) → Option P → Bool
is_some_kept is_kept None = false
is_some_kept is_kept (Some x) = is_kept x

abbrev pub keeps_element : {A : Type 0} → List Element → Elements A → Bool
keeps_element found (element iei form coding from next) =
    is_some_kept coding.is_kept (known iei coding.reading found) || keeps_element found (next (known iei coding.reading found))
keeps_element found (passed_over iei form rest) = keeps_element found rest
keeps_element found (message x) = false

abbrev pub keeps_behind : {P : Type 0} → (P → Bool) → (P × Place → Bool) → Result (P × Place) BodyRefusal → Bool
keeps_behind is_kept rest (Ok x) = is_kept x.0 || rest x
keeps_behind is_kept rest (Err e) = false

abbrev pub keeps : {A : Type 0} → Table A → ℕ → Place → Bool
keeps (part frame coding from next) n p = keeps_behind coding.is_kept (λ x. keeps (next x.0) (suc n) x.1) (part_at n frame coding.reading p)
keeps (elements es) n p = keeps_element (found_at (rows es) p) es
