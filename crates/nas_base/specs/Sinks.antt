-- A sink that is to fail at some of its calls.
use Rattle.std.specs.Prelude.{◌≡◌, ℕ, ◌+◌, ◌-◌, ◌/◌, ◌^◌, min, List, ◌++◌, length, take, Contains, Result, Ok, Err}
use Rattle.nas_base.specs.declared.outside.WriteRefusal.{WriteRefusal}
use Rattle.nas_base.specs.declared.outside.WriteRefusal.TheVariants.{Failed, Memory}

-- what was written to it, the numbers of the calls that are to fail, and how many calls and faults there were
pub record Trial : Type 0 where
  pub written : List ℕ
  pub failing : List ℕ
  pub calls : ℕ
  pub faults : ℕ

-- one more; a count that stands at the end of its type stays there
abbrev pub one_more : ℕ → ℕ
one_more n = min (n + 1) (2 ^ 64 - 1)

-- the next call is one that is to fail
abbrev pub IsToFail : Trial → Type 0
IsToFail t = Contains t.failing (one_more t.calls)

-- so many of the octets are written behind the others, and the call is counted
abbrev pub wrote : List ℕ → Trial → Trial
wrote octets t = record t { written = t.written ++ octets; calls = one_more t.calls }

-- A call that is to fail writes the first half of its octets and counts a fault; another writes them all. Where there is no memory
-- for these, nothing is written.
abbrev pub Tries : Result (Unit {0}) WriteRefusal → List ℕ → Trial → Trial → Type 0
Tries (Ok done) octets old new = (¬ (IsToFail old)) × (new ≡ wrote octets old)
Tries (Err Failed) octets old new = IsToFail old × (new ≡ record (wrote (take (length octets / 2) octets) old) { faults = one_more old.faults })
Tries (Err Memory) octets old new = new ≡ record old { calls = one_more old.calls }
