-- What is read of an open file, where the octets that it has left are known.
use Rattle.std.specs.Prelude.{◌≡◌, ℕ, ◌<◌, ◌≤◌, List, length, Option, Some, None, Result, Ok, Err, nat_lt, MatchBool}
use Rattle.std.specs.Io.KnownBytes.{Consumes, IsAtEnd}
use Rattle.nas_cli.specs.declared.files.FileRefusal.{FileRefusal}
use Rattle.nas_cli.specs.declared.files.FileRefusal.TheVariants.{Failed, TooLong, Memory}

-- an error of reading is a failure or want of memory
abbrev pub IsErrorOfReading : FileRefusal → Type 0
IsErrorOfReading Failed = Unit {0}
IsErrorOfReading Memory = Unit {0}
IsErrorOfReading (TooLong size) = ⊥

-- so many octets were taken
pub record Takes (old new : Option (List ℕ)) (size : ℕ) : Type 0 where
  pub taken : List ℕ
  pub count : length taken ≡ size
  pub consumed : Consumes old new taken

-- All that was left was read, and nothing is left; or there were more octets than the limit, and the size that is named is
-- the number of those that had been taken; or the file failed, or memory was wanting.
abbrev pub ReadsWhole : ℕ → Option (List ℕ) → Option (List ℕ) → Result (List ℕ) FileRefusal → Type 0
ReadsWhole limit old new (Ok octets) = (length octets ≤ limit) × Consumes old new octets × IsAtEnd new
ReadsWhole limit old new (Err (TooLong size)) = (limit < size) × Takes old new size
ReadsWhole limit old new (Err Failed) = Unit {0}
ReadsWhole limit old new (Err Memory) = Unit {0}

-- a file that tells a length above the limit is refused by it
abbrev pub ReadsOpen : Option ℕ → ℕ → Option (List ℕ) → Option (List ℕ) → Result (List ℕ) FileRefusal → Type 0
ReadsOpen None limit old new result = ReadsWhole limit old new result
ReadsOpen (Some size) limit old new result = MatchBool (nat_lt limit size) (result ≡ Err (TooLong size)) (ReadsWhole limit old new result)
