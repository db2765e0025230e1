-- Where octets stop being the front of a value's octets, for values whose octets are told by a layout: the lines that a value
-- has at least, and the lines that it may have behind them.
use Rattle.std.proofs.Common.{◌≡◌, ◌<◌, ◌≤◌, ◌+◌, ◌&&◌, ℕ, Bool, true, false, suc, nat_lt, if◌then◌else◌, List, [], ◌∷◌, ◌++◌, length, take, drop, map, Option, Some, is_some, arith, refl, subst}
use Rattle.std.proofs.lemmas.Bool.Decides.{nat_tests}
use Rattle.std.proofs.lemmas.Grind.{common_steps}
use Rattle.nas_elements.specs.Layout.{meets, met}
use Rattle.nas_elements.specs.Reads.{IsWrongAt, StartsAValue}
use Rattle.nas_elements.specs.declared.layout.Line.{Line}
use Rattle.nas_elements.specs.declared.layout.Line.TheVariants.{Any, Is, TypeOfIdentity, TwoDigits, DigitAndPerhapsAnother, RoutingEnd, MoreDigits}
use Rattle.nas_elements.proofs.Sized.{starts_whole}

-- the octets meet their lines; lines may be left over, octets not
abbrev pub front : ℕ → List ℕ → List Line → Bool
front before [] lines = true
front before (octet ∷ octets) [] = false
front before (octet ∷ octets) (line ∷ lines) = meets line before octet && front octet octets lines

pub front-shorter : (before : ℕ) (p q : List ℕ) (lines : List Line) → front before (p ++ q) lines ≡ true → front before p lines ≡ true
front-shorter before [] q lines h = refl
front-shorter before (o ∷ p) q [] h = h
front-shorter before (o ∷ p) q (line ∷ lines) h = grind (arith, h, front-shorter o p q lines)

pub met-within : (before : ℕ) (lines : List Line) (octets : List ℕ) → met before lines octets ≤ length octets
met-within before [] octets = omega arith
met-within before (line ∷ lines) [] = omega arith
met-within before (line ∷ lines) (o ∷ octets) = grind (arith, met-within o lines octets)

-- those that meet their lines are a front, and with the next one none
pub front-met : (before : ℕ) (lines : List Line) (octets : List ℕ) → front before (take (met before lines octets) octets) lines ≡ true
front-met before [] octets = refl
front-met before (line ∷ lines) [] = refl
front-met before (line ∷ lines) (o ∷ octets) = go (meets line before o) refl (front-met o lines octets) where
  go : (b : Bool) → meets line before o ≡ b → front o (take (met o lines octets) octets) lines ≡ true
      → front before (take (if b then suc (met o lines octets) else 0) (o ∷ octets)) (line ∷ lines) ≡ true
  go true h rest = grind (arith, h, rest)
  go false h rest = refl

pub front-past : (before : ℕ) (lines : List Line) (octets : List ℕ) → met before lines octets < length octets
    → front before (take (suc (met before lines octets)) octets) lines ≡ false
front-past before [] [] h = grind (arith, h)
front-past before [] (o ∷ octets) h = refl
front-past before (line ∷ lines) [] h = grind (arith, h)
front-past before (line ∷ lines) (o ∷ octets) h = go (meets line before o) refl h (front-past o lines octets) where
  go : (b : Bool) → meets line before o ≡ b → (if b then suc (met o lines octets) else 0) < length (o ∷ octets)
      → (met o lines octets < length octets → front o (take (suc (met o lines octets)) octets) lines ≡ false)
      → front before (take (suc (if b then suc (met o lines octets) else 0)) (o ∷ octets)) (line ∷ lines) ≡ false
  go true e h rest = grind (arith, e, rest (omega arith))
  go false e h rest = grind (arith, e)

-- an octet that meets the line, whatever stands before it
abbrev pub witness : Line → ℕ
witness Any = 0
witness (Is wanted) = wanted
witness (TypeOfIdentity wanted) = wanted
witness TwoDigits = 0
witness DigitAndPerhapsAnother = 0
witness RoutingEnd = 0xff
witness MoreDigits = 0

-- the line has one
abbrev pub is_sure : Line → Bool
is_sure Any = true
is_sure (Is wanted) = true
is_sure (TypeOfIdentity wanted) = nat_lt wanted 8
is_sure TwoDigits = true
is_sure DigitAndPerhapsAnother = true
is_sure RoutingEnd = true
is_sure MoreDigits = false

abbrev pub are_sure : List Line → Bool
are_sure [] = true
are_sure (line ∷ lines) = is_sure line && are_sure lines

pub meets-witness : (line : Line) (before : ℕ) → is_sure line ≡ true → meets line before (witness line) ≡ true
meets-witness Any before h = refl
meets-witness (Is wanted) before h = grind (arith, nat_tests)
meets-witness (TypeOfIdentity wanted) before h = grind (arith, h, nat_tests)
meets-witness TwoDigits before h = refl
meets-witness DigitAndPerhapsAnother before h = refl
meets-witness RoutingEnd before h = refl
meets-witness MoreDigits before h = grind (arith, h)

pub front-witness : (before : ℕ) (sure more : List Line) → are_sure sure ≡ true → front before (map witness sure) (sure ++ more) ≡ true
front-witness before [] more h = refl
front-witness before (line ∷ sure) more h = grind (arith, h, meets-witness line before, front-witness (witness line) sure more)

-- a front can be filled up to all the lines that a value has at least
pub front-filled : (before : ℕ) (p : List ℕ) (sure more : List Line) → are_sure sure ≡ true → front before p (sure ++ more) ≡ true
    → front before (p ++ map witness (drop (length p) sure)) (sure ++ more) ≡ true
front-filled before [] sure more h f = front-witness before sure more h
front-filled before (o ∷ p) [] more h f = grind (arith, f, common_steps)
front-filled before (o ∷ p) (line ∷ sure) more h f = grind (arith, h, f, common_steps, front-filled o p sure more)

pub length-filled : (p : List ℕ) (sure : List Line) → length sure ≤ length (p ++ map witness (drop (length p) sure))
length-filled p sure = grind (arith, common_steps)

pub not_both : {b : Bool} → b ≡ false → b ≡ true → ⊥
not_both not_so so = grind (arith, not_so, so)

pub has_value : {A : Type 0} {read : Option A} {value : A} → read ≡ Some value → is_some read ≡ true
has_value whole = grind (arith, whole)

-- a reading of the octets of a layout
pub wrong_front : {A : Type 0} (reading : List ℕ → Option A) (sure more : List Line) (octets : List ℕ) → are_sure sure ≡ true
    → ((os : List ℕ) → is_some (reading os) ≡ true → front 0 os (sure ++ more) ≡ true)
    → ((os : List ℕ) → front 0 os (sure ++ more) ≡ true → length sure ≤ length os → is_some (reading os) ≡ true)
    → IsWrongAt reading octets (met 0 (sure ++ more) octets)
wrong_front reading sure more octets h sound complete = record {
  within = met-within 0 (sure ++ more) octets;
  before = let p = take (met 0 (sure ++ more) octets) octets in
      starts_whole reading p (map witness (drop (length p) sure))
      (complete (p ++ map witness (drop (length p) sure)) (front-filled 0 p sure more h (front-met 0 (sure ++ more) octets)) (length-filled p sure));
  here = λ some starts. let next : met 0 (sure ++ more) octets + 1 ≡ suc (met 0 (sure ++ more) octets) = omega arith in
      absurd_front some (subst (λ n. StartsAValue reading (take n octets)) next starts);
} where
  absurd_front : met 0 (sure ++ more) octets < length octets → StartsAValue reading (take (suc (met 0 (sure ++ more) octets)) octets) → ⊥
  absurd_front some starts = not_both (front-past 0 (sure ++ more) octets some)
      (front-shorter 0 (take (suc (met 0 (sure ++ more) octets)) octets) starts.rest (sure ++ more)
      (sound (take (suc (met 0 (sure ++ more) octets)) octets ++ starts.rest) (has_value starts.whole)))
