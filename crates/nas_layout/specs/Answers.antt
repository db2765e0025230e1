-- What reading a message's body, a part or an element answered.
use Rattle.std.specs.Prelude.{◌≡◌, ℕ, Bool, true, List, Option, Some, Result, Ok, Err}
use Rattle.nas_base.specs.Reading.{Place}
use Rattle.nas_layout.specs.Table.{Table, is_some_kept, keeps, laid}
use Rattle.nas_layout.specs.declared.body.BodyRefusal.{BodyRefusal}
use Rattle.nas_layout.specs.declared.body.BodyRefusal.TheVariants.{Mandatory, Memory}

-- the body that a table lays out; memory may be wanting where a part or an element in it is kept as its octets, and only there
abbrev pub Lays : {A : Type 0} → Result A BodyRefusal → Table A → ℕ → Place → Type 0
Lays (Ok message) table n p = laid table n p ≡ Ok message
Lays (Err Memory) table n p = keeps table n p ≡ true
Lays (Err (Mandatory m at)) table n p = laid table n p ≡ Err (Mandatory m at)

-- a value that is kept stands there
abbrev pub IsKept : {P : Type 0} → (P → Bool) → Result (P × Place) BodyRefusal → Type 0
IsKept is_kept (Ok x) = is_kept x.0 ≡ true
IsKept is_kept (Err e) = ⊥

-- a part: its value, and where the reader stands then, or the refusal
abbrev pub Takes : {P : Type 0} → Result P BodyRefusal → Place → (P → Bool) → Result (P × Place) BodyRefusal → Type 0
Takes (Ok x) new is_kept read = read ≡ Ok (x, new)
Takes (Err Memory) new is_kept read = IsKept is_kept read
Takes (Err (Mandatory n at)) new is_kept read = read ≡ Err (Mandatory n at)

-- the same of borrowed octets, seen by a view
abbrev pub Cuts : {X : Type 0} → (X → List ℕ) → Result X BodyRefusal → Place → Result (List ℕ × Place) BodyRefusal → Type 0
Cuts view (Ok x) new read = read ≡ Ok (view x, new)
Cuts view (Err e) new read = read ≡ Err e

-- an element that is kept as its octets
abbrev pub IsRead : {P : Type 0} → Result (Option P) BodyRefusal → (P → Bool) → Option P → Type 0
IsRead (Ok x) is_kept read = read ≡ x
IsRead (Err Memory) is_kept read = is_some_kept is_kept read ≡ true
IsRead (Err (Mandatory n at)) is_kept read = ⊥

-- the octets of a part as they are
abbrev pub as_it_is : List ℕ → Option (List ℕ)
as_it_is octets = Some octets
