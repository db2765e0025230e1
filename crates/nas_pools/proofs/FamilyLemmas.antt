-- A number of a family that is taken, and one that is given back.
use Rattle.std.proofs.Common.{◌≡◌, ◌≢◌, ◌<◌, ◌≤◌, ◌+◌, ◌-◌, ◌^◌, ℕ, Bool, true, false, not, List, [], arith, refl, ap, sym, subst, ◌∙◌}
use Rattle.std.specs.Prelude.{nat_le, ◌==◌, ◌&&◌, ◌||◌, Option, Some, None, option_map, if◌then◌else◌}
use Rattle.std.proofs.lemmas.Bool.{and_parts, eq-eqb}
use Rattle.std.proofs.lemmas.Bool.Decides.{nat_tests}
use Rattle.std.proofs.lemmas.List.{append-nil}
use Rattle.std.proofs.lemmas.Option.{same_Some, some_pair_parts}
use Rattle.byteorder.specs.Endian.{big_bytes, big_number}
use Rattle.byteorder.specs.Numbers.{big_number-reads_back}
use Rattle.nas_pools.specs.Numbers.{is_in, least_free, with_number, without}
use Rattle.nas_pools.specs.Families.{FamilyParts, give_part, is_taken_at, octets_of, take_least, with_taken, without_taken}
use Rattle.nas_pools.proofs.FailingLemmas.{FoundAt, found_from}
use Rattle.nas_pools.proofs.ListLemmas.{in_with_other, in_with_same, in_without_other, in_without_same, without_absent, without_with}

-- the number that was taken
pub record Took (width : ℕ) (f : FamilyParts) (octets : List ℕ) (g : FamilyParts) : Type 0 where
  pub n : ℕ
  pub free : is_in n f.taken ≡ false
  pub below : n < f.size
  pub before : (m : ℕ) → m < n → is_in m f.taken ≡ true
  pub number : big_number width octets ≡ f.first + n
  pub after : g ≡ with_taken n f

number_back : (width x : ℕ) → x < 256 ^ width → big_number width (big_bytes width x) ≡ x
number_back width x h = subst (λ (octets : List ℕ). big_number width octets ≡ x) (append-nil (big_bytes width x)) (big_number-reads_back width x [] h)

took_by : (width : ℕ) (f : FamilyParts) (octets : List ℕ) (g : FamilyParts) (o : Option ℕ) → o ≡ least_free f.size f.taken → f.first + f.size ≤ 256 ^ width →
    option_map {U = List ℕ × FamilyParts} (λ n. (octets_of width f n, with_taken n f)) o ≡ Some (octets, g) → Took width f octets g
took_by width f octets g None e fits h = absurd (cc)
took_by width f octets g (Some n) e fits h =
    let found : FoundAt (λ k. is_in k f.taken) 0 f.size n = found_from (λ k. is_in k f.taken) 0 f.size n (sym e) in
    let below : n < 0 + f.size = found.below in
    let parts = some_pair_parts (octets_of width f n) octets (with_taken n f) g h in
    record {
      n = n;
      free = found.fails;
      below = omega arith;
      before = λ m under. found.before m (omega arith) under;
      number = ap (big_number width) (sym parts.0) ∙ number_back width (f.first + n) (omega arith);
      after = sym parts.1;
    }

pub took : (width : ℕ) (f : FamilyParts) (octets : List ℕ) (g : FamilyParts) → f.first + f.size ≤ 256 ^ width → take_least width f ≡ Some (octets, g) → Took width f octets g
took width f octets g fits h = took_by width f octets g (least_free f.size f.taken) refl fits h

-- a number of a family by its address
there_is : (x n : ℕ) (f : FamilyParts) → x ≡ f.first + n → is_taken_at x f ≡ is_in n f.taken
there_is x n f e =
    let order : nat_le f.first x ≡ true = grind (arith, nat_tests) in
    let number : x - f.first ≡ n = omega arith in rw (order, number) refl

pub took_free : (width x : ℕ) (f : FamilyParts) (octets : List ℕ) (g : FamilyParts) → Took width f octets g → (big_number width octets == x) ≡ true → is_taken_at x f ≡ false
took_free width x f octets g t is =
    let number : big_number width octets ≡ f.first + t.n = t.number in
    let same : x ≡ f.first + t.n = grind (arith, nat_tests) in there_is x t.n f same ∙ t.free

pub took_least : (width x : ℕ) (f : FamilyParts) (octets : List ℕ) (g : FamilyParts) → Took width f octets g → (big_number width octets == x) ≡ true →
    (before : ℕ) → f.first ≤ before → before < x → is_taken_at before f ≡ true
took_least width x f octets g t is before above under =
    let number : big_number width octets ≡ f.first + t.n = t.number in
    let same : x ≡ f.first + t.n = grind (arith, nat_tests) in
    let place : before ≡ f.first + (before - f.first) = omega arith in
    there_is before (before - f.first) f place ∙ t.before (before - f.first) (omega arith)

-- all other addresses are as before
others_taken_by : (x n : ℕ) (f : FamilyParts) (b : Bool) → nat_le f.first x ≡ b → x ≢ f.first + n → is_taken_at x (with_taken n f) ≡ is_taken_at x f
others_taken_by x n f true is apart =
    let above : f.first ≤ x = grind (arith, nat_tests) in
    let other : x - f.first ≢ n = λ (e : x - f.first ≡ n). apart (omega arith) in
    rw (is, in_with_other n (x - f.first) f.taken other) refl
others_taken_by x n f false is apart = rw is refl

others_given_by : (x n : ℕ) (f : FamilyParts) (b : Bool) → nat_le f.first x ≡ b → x ≢ f.first + n → is_taken_at x (without_taken n f) ≡ is_taken_at x f
others_given_by x n f true is apart =
    let above : f.first ≤ x = grind (arith, nat_tests) in
    let other : x - f.first ≢ n = λ (e : x - f.first ≡ n). apart (omega arith) in
    rw (is, in_without_other n (x - f.first) f.taken other) refl
others_given_by x n f false is apart = rw is refl

took_one_by : (width x : ℕ) (f : FamilyParts) (octets : List ℕ) (g : FamilyParts) (b : Bool) → (big_number width octets == x) ≡ b → Took width f octets g →
    is_taken_at x g ≡ (b || is_taken_at x f)
took_one_by width x f octets g true is t =
    let number : big_number width octets ≡ f.first + t.n = t.number in
    let same : x ≡ f.first + t.n = grind (arith, nat_tests) in
    rw t.after (there_is x t.n (with_taken t.n f) same ∙ in_with_same t.n f.taken)
took_one_by width x f octets g false is t =
    let number : big_number width octets ≡ f.first + t.n = t.number in
    let apart : x ≢ f.first + t.n = λ (e : x ≡ f.first + t.n). grind (arith, nat_tests) in
    rw t.after (others_taken_by x t.n f (nat_le f.first x) refl apart)

pub took_one : (width x : ℕ) (f : FamilyParts) (octets : List ℕ) (g : FamilyParts) → Took width f octets g →
    is_taken_at x g ≡ ((big_number width octets == x) || is_taken_at x f)
took_one width x f octets g t = took_one_by width x f octets g (big_number width octets == x) refl t

-- what was taken is given back
pub took_back : (width : ℕ) (f : FamilyParts) (octets : List ℕ) (g : FamilyParts) → Took width f octets g → give_part width octets g ≡ Some f
took_back width f octets g t =
    let there : is_taken_at (big_number width octets) g ≡ true = took_one_by width (big_number width octets) f octets g true (eq-eqb (big_number width octets) (big_number width octets) refl) t in
    let first : g.first ≡ f.first = ap (λ (h : FamilyParts). h.first) t.after in
    let number : big_number width octets - g.first ≡ t.n = let is : big_number width octets ≡ f.first + t.n = t.number in omega arith in
    let back : without t.n (with_number t.n f.taken) ≡ f.taken = without_with t.n f.taken ∙ without_absent t.n f.taken t.free in
    rw (there, number) (ap (λ (h : FamilyParts). Some (without_taken t.n h)) t.after ∙ ap (λ (ns : List ℕ). let h : FamilyParts = record f { taken = ns } in Some h) back)

-- the number that was given back
pub record Gave (width : ℕ) (f : FamilyParts) (octets : List ℕ) (g : FamilyParts) : Type 0 where
  pub there : is_taken_at (big_number width octets) f ≡ true
  pub after : g ≡ without_taken (big_number width octets - f.first) f

gave_by : (width : ℕ) (f : FamilyParts) (octets : List ℕ) (g : FamilyParts) (b : Bool) → is_taken_at (big_number width octets) f ≡ b →
    option_map (λ n. without_taken n f) (if b then Some (big_number width octets - f.first) else None) ≡ Some g → Gave width f octets g
gave_by width f octets g true is h = record {
  there = is;
  after = sym (same_Some (without_taken (big_number width octets - f.first) f) g h);
}
gave_by width f octets g false is h = absurd (cc)

pub gave : (width : ℕ) (f : FamilyParts) (octets : List ℕ) (g : FamilyParts) → give_part width octets f ≡ Some g → Gave width f octets g
gave width f octets g h = gave_by width f octets g (is_taken_at (big_number width octets) f) refl h

above_first : (x : ℕ) (f : FamilyParts) → is_taken_at x f ≡ true → f.first ≤ x
above_first x f h = let order : nat_le f.first x ≡ true = (and_parts (nat_le f.first x) (is_in (x - f.first) f.taken) h).0 in grind (arith, nat_tests)

gave_one_by : (width x : ℕ) (f : FamilyParts) (octets : List ℕ) (g : FamilyParts) (b : Bool) → (big_number width octets == x) ≡ b → Gave width f octets g →
    is_taken_at x g ≡ (not b && is_taken_at x f)
gave_one_by width x f octets g true is t =
    let above : f.first ≤ big_number width octets = above_first (big_number width octets) f t.there in
    let same : x ≡ f.first + (big_number width octets - f.first) = grind (arith, nat_tests) in
    rw t.after
    (there_is x (big_number width octets - f.first) (without_taken (big_number width octets - f.first) f) same
    ∙ in_without_same (big_number width octets - f.first) f.taken)
gave_one_by width x f octets g false is t =
    let above : f.first ≤ big_number width octets = above_first (big_number width octets) f t.there in
    let apart : x ≢ f.first + (big_number width octets - f.first) = λ (e : x ≡ f.first + (big_number width octets - f.first)). grind (arith, nat_tests) in
    rw t.after (others_given_by x (big_number width octets - f.first) f (nat_le f.first x) refl apart)

pub gave_one : (width x : ℕ) (f : FamilyParts) (octets : List ℕ) (g : FamilyParts) → Gave width f octets g →
    is_taken_at x g ≡ (not (big_number width octets == x) && is_taken_at x f)
gave_one width x f octets g t = gave_one_by width x f octets g (big_number width octets == x) refl t
