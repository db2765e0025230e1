-- Fronts of a text, and what tells of it.
use Rattle.std.proofs.Common.{◌≡◌, ℕ, ◌≤◌, Bool, true, false, List, [], ◌++◌, Option, Some, None, Result, Ok, Err, take, drop, cond, arith, refl}
use Rattle.std.specs.Prelude.{IsOk, MatchBool}
use Rattle.std.proofs.lemmas.Grind.{common_steps}
use Rattle.std.specs.Io.KnownBytes.{Appends}
use Rattle.nas_base.specs.Outside.{AppendsFront, Rose, Tells}

-- nothing was appended
pub appends_nothing : (known : Option (List ℕ)) → Appends known known []
appends_nothing None = tt
appends_nothing (Some xs) = grind (arith, common_steps)

pub front_nothing : (known : Option (List ℕ)) (text : List ℕ) → AppendsFront known known text
front_nothing known text = record { front = []; rest = text; parts = refl; appended = appends_nothing known }

-- the first n octets were appended, or none
pub front_first : (n : ℕ) (b : Bool) (old new text : List ℕ) → new ≡ cond b (old ++ take n text) old → AppendsFront (Some old) (Some new) text
front_first n true old new text e = record { front = take n text; rest = drop n text; parts = grind (arith, common_steps); appended = e }
front_first n false old new text e = record { front = []; rest = text; parts = refl; appended = grind (arith, common_steps) }

-- a front stays one where more of the text was to come
pub front_longer : (old new : Option (List ℕ)) (text more : List ℕ) → AppendsFront old new text → AppendsFront old new (text ++ more)
front_longer old new text more f = record {
  front = f.front;
  rest = f.rest ++ more;
  parts = grind (arith, common_steps, f.parts);
  appended = f.appended;
}

-- one text behind another
pub appends_both : (a b c : Option (List ℕ)) (s t : List ℕ) → Appends a b s → Appends b c t → Appends a c (s ++ t)
appends_both None b c s t x y = tt
appends_both (Some xs) None c s t x y = absurd x
appends_both (Some xs) (Some ys) None s t x y = y
appends_both (Some xs) (Some ys) (Some zs) s t x y = grind (arith, common_steps, x, y)

front_after : (a b c : Option (List ℕ)) (s t : List ℕ) → Appends a b s → AppendsFront b c t → AppendsFront a c (s ++ t)
front_after a b c s t x f = record {
  front = s ++ f.front;
  rest = f.rest;
  parts = grind (arith, common_steps, f.parts);
  appended = appends_both a b c s f.front x f.appended;
}

later : (b : Bool) (x y z : ℕ) → x ≤ y → MatchBool b (Rose y z) (y ≤ z) → MatchBool b (Rose x z) (x ≤ z)
later true x y z le h = omega arith
later false x y z le h = omega arith

-- what tells the rest, tells the whole behind what was written
pub tells_after : {T U E : Type 0} (fault : E → Bool) (a b c : Option (List ℕ)) (x y z : ℕ) (s t : List ℕ) (written : Result U E) (r : Result T E) →
    IsOk written → Tells fault a b x y s written → Tells fault b c y z t r → Tells fault a c x z (s ++ t) r
tells_after fault a b c x y z s t (Ok u) (Ok v) ok h k = (appends_both a b c s t h.0 k.0, omega (arith, h.1, k.1))
tells_after fault a b c x y z s t (Ok u) (Err e) ok h k = (front_after a b c s t h.0 k.0, later (fault e) x y z h.1 k.1)
tells_after fault a b c x y z s t (Err d) r ok h k = cc

-- a refusal tells of the whole what it tells of a front
pub tells_front : {T U E : Type 0} (fault : E → Bool) (a b : Option (List ℕ)) (x y : ℕ) (s t : List ℕ) (r : Result T E) (whole : Result U E) (e : E) →
    r ≡ Err e → whole ≡ Err e → Tells fault a b x y s r → Tells fault a b x y (s ++ t) whole
tells_front fault a b x y s t (Ok u) whole e is was h = cc
tells_front fault a b x y s t (Err d) (Ok v) e is was h = cc
tells_front fault a b x y s t (Err d) (Err f) e is was h =
    let same : d ≡ f = cc in
    (front_longer a b s t h.0, rw (← same) h.1)

-- a refusal that is no fault of the sink, where nothing was written
pub tells_nothing : {T E : Type 0} (fault : E → Bool) (a : Option (List ℕ)) (x : ℕ) (t : List ℕ) (r : Result T E) (e : E) → r ≡ Err e → fault e ≡ false →
    Tells fault a a x x t r
tells_nothing fault a x t (Ok v) e is harmless = cc
tells_nothing fault a x t (Err d) e is harmless =
    let same : fault d ≡ false = cc in
    (front_nothing a t, rw same (omega arith))
