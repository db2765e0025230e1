-- Values whose octets follow a grammar. A function counts the octets that can start a value, from the first on.
use Rattle.std.proofs.Common.{◌≡◌, ◌≤◌, ◌+◌, ℕ, suc, Bool, true, false, List, ◌++◌, length, take, min, Option, Some, is_some, cond, ap, arith}
use Rattle.std.proofs.lemmas.Grind.{common_steps}
use Rattle.nas_elements.specs.Reads.{IsWrongAt, StartsAValue}

-- one more octet, where the count goes on behind it
pub counts_on : (b : Bool) (n x y : ℕ) → x ≡ min n y → cond b (1 + x) 0 ≡ min (suc n) (cond b (1 + y) 0)
counts_on true n x y e = omega arith
counts_on false n x y e = omega arith

is_some_of : {A : Type 0} {read : Option A} {value : A} → read ≡ Some value → is_some read ≡ true
is_some_of {A} {read} {value} whole = grind (arith, whole)

-- It counts them one by one; all of a value's octets start one; octets that are all counted start one. So octets stop
-- being the front of a value's octets at their count.
pub wrong_front : {A : Type 0} (reading : List ℕ → Option A) (good : List ℕ → ℕ)
    → ((n : ℕ) (os : List ℕ) → good (take n os) ≡ min n (good os))
    → ((os : List ℕ) → is_some (reading os) ≡ true → good os ≡ length os)
    → ((os : List ℕ) → good os ≡ length os → StartsAValue reading os)
    → (octets : List ℕ) → IsWrongAt reading octets (good octets)
wrong_front reading good cut sound complete octets =
    let whole : take (length octets) octets ≡ octets = grind (arith, common_steps) in
    let all : good (take (length octets) octets) ≡ good octets = ap good whole in
    let most : good octets ≤ length octets = omega (arith, all, cut (length octets) octets) in
    record {
      within = most;
      before = complete (take (good octets) octets) (grind (arith, common_steps, cut (good octets) octets));
      here = λ more starts.
          let front : List ℕ = take (good octets + 1) octets in
          let size : length front ≡ good octets + 1 = grind (arith, common_steps) in
          let back : take (length front) (front ++ starts.rest) ≡ front = grind (arith, common_steps) in
          let kept : good (take (length front) (front ++ starts.rest)) ≡ good front = ap good back in
          let counted : good (front ++ starts.rest) ≡ length (front ++ starts.rest) = sound (front ++ starts.rest) (is_some_of starts.whole) in
          let longer : length front ≤ length (front ++ starts.rest) = grind (arith, common_steps) in
          omega (arith, size, kept, counted, longer, cut (length front) (front ++ starts.rest), cut (good octets + 1) octets);
    }
