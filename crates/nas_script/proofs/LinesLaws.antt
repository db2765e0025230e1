-- Lines, octet by octet.
use Rattle.std.proofs.Common.{◌≡◌, ℕ, ◌+◌, ◌≤◌, Bool, true, false, cond, List, [], ◌∷◌, ◌++◌, length, eqb, refl, ap, arith}
use Rattle.std.proofs.lemmas.Bool.Decides.{nat_tests}
use Rattle.std.proofs.lemmas.Grind.{common_steps}
use Rattle.nas_script.specs.Lines.{count_events, split, with_first}

-- the lines behind the first
abbrev pub others : List (List ℕ) → List (List ℕ)
others [] = []
others (l ∷ ls) = ls

pub count_events-with_first : (c : ℕ) (ls : List (List ℕ)) → count_events (with_first c ls) ≡ (cond (eqb c 35) 0 1) + count_events (others ls)
count_events-with_first c [] = grind (arith, nat_tests)
count_events-with_first c (l ∷ ls) = grind (arith, nat_tests)

pub others-with_first : (c : ℕ) (ls : List (List ℕ)) → others (with_first c ls) ≡ others ls
others-with_first c [] = refl
others-with_first c (l ∷ ls) = refl

-- the event lines that begin in the octets, or also behind a start of a line
abbrev pub events_left : Bool → List ℕ → ℕ
events_left true octets = count_events (split octets)
events_left false octets = count_events (others (split octets))

pub events_left-feed : (at_start : Bool) (cs : List ℕ) → events_left at_start (10 ∷ cs) ≡ events_left true cs
events_left-feed true cs = omega arith
events_left-feed false cs = refl

pub events_left-start : (c : ℕ) (cs : List ℕ) → eqb c 10 ≡ false → events_left true (c ∷ cs) ≡ (cond (eqb c 35) 0 1) + events_left false cs
events_left-start c cs e = rw e (count_events-with_first c (split cs))

pub events_left-within : (c : ℕ) (cs : List ℕ) → eqb c 10 ≡ false → events_left false (c ∷ cs) ≡ events_left false cs
events_left-within c cs e = rw e (ap count_events (others-with_first c (split cs)))

pub events_left-le : (at_start : Bool) (octets : List ℕ) → events_left at_start octets ≤ length octets
events_left-le b [] = grind (arith, nat_tests)
events_left-le true (c ∷ cs) = grind (arith, nat_tests, count_events-with_first c (split cs), events_left-le true cs, events_left-le false cs)
events_left-le false (c ∷ cs) = grind (arith, nat_tests, others-with_first c (split cs), events_left-le true cs, events_left-le false cs)

-- a line that was begun, before those that are left
abbrev pub joined : List ℕ → List (List ℕ) → List (List ℕ)
joined line [] = line ∷ []
joined line (l ∷ ls) = (line ++ l) ∷ ls

pub joined-with_first : (line : List ℕ) (c : ℕ) (ls : List (List ℕ)) → joined line (with_first c ls) ≡ joined (line ++ c ∷ []) ls
joined-with_first line c [] = refl
joined-with_first line c (l ∷ ls) = grind (arith, common_steps)

joined-first : (c : ℕ) (ls : List (List ℕ)) → joined [] (with_first c ls) ≡ with_first c ls
joined-first c [] = refl
joined-first c (l ∷ ls) = refl

pub joined-nothing : (octets : List ℕ) → joined [] (split octets) ≡ split octets
joined-nothing [] = refl
joined-nothing (c ∷ cs) = go (eqb c 10) where
  go : (b : Bool) → joined [] (cond b ([] ∷ split cs) (with_first c (split cs))) ≡ cond b ([] ∷ split cs) (with_first c (split cs))
  go true = refl
  go false = joined-first c (split cs)
