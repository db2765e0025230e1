-- What a read of a file answers, and what the object tells of it.
use Rattle.std.specs.Prelude.{◌≡◌, ℕ, ◌<◌, ◌≤◌, List, [], ◌∷◌, ◌++◌, length, Option, Some, option_map, IfSome, Result, Ok, Err}
use Rattle.nas_base.specs.Outside.{Rose}
use Rattle.nas_cli.specs.declared.files.FileRefusal.{FileRefusal}
use Rattle.nas_cli.specs.declared.files.FileRefusal.TheVariants.{Failed, TooLong, Memory}

-- the octets of the file of each name; a name that isn't there has none
abbrev pub Content : Type 0
Content = List ℕ → Option (List ℕ)

abbrev pub ReadsFile : Option Content → ℕ → ℕ → List ℕ → ℕ → Result (List ℕ) FileRefusal → Type 0
ReadsFile content before now name limit (Ok octets) =
    (before ≤ now) × (length octets ≤ limit) × IfSome content (λ files. files name ≡ Some octets)
ReadsFile content before now name limit (Err Failed) = Rose before now
ReadsFile content before now name limit (Err (TooLong size)) =
    (before ≤ now) × (limit < size) × IfSome content (λ files. option_map length (files name) ≡ Some size)
ReadsFile content before now name limit (Err Memory) = before ≤ now

-- the names that it was asked for, with one more
abbrev pub one_more : Option (List (List ℕ)) → List ℕ → Option (List (List ℕ))
one_more names name = option_map (λ ns. ns ++ name ∷ []) names

abbrev pub AsksFor : Option (List (List ℕ)) → Option (List (List ℕ)) → List ℕ → Result (List ℕ) FileRefusal → Type 0
AsksFor old new name (Ok octets) = new ≡ one_more old name
AsksFor old new name (Err Failed) = new ≡ one_more old name
AsksFor old new name (Err (TooLong size)) = new ≡ one_more old name
AsksFor old new name (Err Memory) = new ≡ old
