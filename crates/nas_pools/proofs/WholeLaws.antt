-- What taking and giving back say of whole addresses and pools.
use Rattle.std.proofs.Common.{◌≡◌, ◌-◌, ℕ, Bool, true, false, List, [], ◌∷◌, arith, refl, ap, sym, subst}
use Rattle.std.specs.Prelude.{◌==◌, ◌&&◌, Option, Some, None, is_some}
use Rattle.std.proofs.lemmas.Bool.{and_parts}
use Rattle.std.proofs.lemmas.Bool.Decides.{nat_tests}
use Rattle.byteorder.specs.Endian.{big_number}
use Rattle.nas_elements.specs.declared.address.Address.{Address}
use Rattle.nas_elements.specs.declared.address.Address.TheVariants.{V4, V6, V4V6}
use Rattle.nas_pools.specs.PoolLaws.{GivesTaken, GivingUndoes, PoolOfTwo, PoolsStay, TakenAreDistinct, is_number, two_addresses, v4_part, v6_part}
use Rattle.nas_pools.specs.Families.{FamilyParts, IsFamily, has_part, is_taken_at}
use Rattle.nas_pools.specs.Pools.{PoolsParts, give_of, has_address, take_of}
use Rattle.nas_pools.proofs.FamilyLemmas.{took_back}
use Rattle.nas_pools.proofs.OneLaws.{takes_free}
use Rattle.nas_pools.proofs.RiseLemmas.{rise_with, rise_without}
use Rattle.nas_pools.proofs.TakingLemmas.{GavePart, TookPart, TookParts, gave_parts, took_parts}

-- what was taken is given back
undone : (address : Address) (p q : PoolsParts) → TookParts address p q → give_of address q ≡ Some p
unfolding give_of
undone (V4 v4) p q t =
    rw (took_back 4 p.v4 v4 q.v4 t.v4) (ap (λ (six : FamilyParts). let r : PoolsParts = record { v4 = p.v4; v6 = six } in Some r) t.v6)
undone (V6 v6) p q t =
    rw (took_back 8 p.v6 v6 q.v6 t.v6) (ap (λ (four : FamilyParts). let r : PoolsParts = record { v4 = four; v6 = p.v6 } in Some r) t.v4)
undone (V4V6 v6 v4) p q t = rw (took_back 4 p.v4 v4 q.v4 t.v4, took_back 8 p.v6 v6 q.v6 t.v6) refl

pub giving_undoes : GivingUndoes
giving_undoes kind address p q t = undone address p q (took_parts kind address p q t)

-- an address whose parts are taken
given_v4 : (v4 : List ℕ) (p : PoolsParts) (b : Bool) → has_part 4 v4 p.v4 ≡ b → is_some (give_of (V4 v4) p) ≡ b
unfolding give_of
given_v4 v4 p true is = rw is refl
given_v4 v4 p false is = rw is refl

given_v6 : (v6 : List ℕ) (p : PoolsParts) (b : Bool) → has_part 8 v6 p.v6 ≡ b → is_some (give_of (V6 v6) p) ≡ b
unfolding give_of
given_v6 v6 p true is = rw is refl
given_v6 v6 p false is = rw is refl

given_both : (v6 v4 : List ℕ) (p : PoolsParts) (b c : Bool) → has_part 4 v4 p.v4 ≡ b → has_part 8 v6 p.v6 ≡ c → is_some (give_of (V4V6 v6 v4) p) ≡ (b && c)
unfolding give_of
given_both v6 v4 p true true is also = rw (is, also) refl
given_both v6 v4 p true false is also = rw (is, also) refl
given_both v6 v4 p false c is also = rw is refl

pub gives_taken : GivesTaken
gives_taken (V4 v4) p = given_v4 v4 p (has_part 4 v4 p.v4) refl
gives_taken (V6 v6) p = given_v6 v6 p (has_part 8 v6 p.v6) refl
gives_taken (V4V6 v6 v4) p = given_both v6 v4 p (has_part 4 v4 p.v4) (has_part 8 v6 p.v6) refl refl

abbrev HasPart : ℕ → Option (List ℕ) → FamilyParts → Type 0
HasPart width None f = Unit {0}
HasPart width (Some octets) f = has_part width octets f ≡ true

record HasParts (address : Address) (p : PoolsParts) : Type 0 where
  v4 : HasPart 4 (v4_part address) p.v4
  v6 : HasPart 8 (v6_part address) p.v6

has_parts : (address : Address) (p : PoolsParts) → has_address address p ≡ true → HasParts address p
has_parts (V4 v4) p h = record { v4 = h; v6 = tt }
has_parts (V6 v6) p h = record { v4 = tt; v6 = h }
has_parts (V4V6 v6 v4) p h = let both = and_parts (has_part 4 v4 p.v4) (has_part 8 v6 p.v6) h in record { v4 = both.0; v6 = both.1 }

-- a part that is taken is no number that is free
apart_by : (width x : ℕ) (octets : List ℕ) (f : FamilyParts) (b : Bool) → (big_number width octets == x) ≡ b → has_part width octets f ≡ true → is_taken_at x f ≡ false →
    b ≡ false
apart_by width x octets f true is there free =
    let same : big_number width octets ≡ x = grind (arith, nat_tests) in
    let taken : is_taken_at x f ≡ true = subst (λ (y : ℕ). is_taken_at y f ≡ true) same there in cc
apart_by width x octets f false is there free = refl

apart : (width x : ℕ) (part : Option (List ℕ)) (f : FamilyParts) → HasPart width part f → is_taken_at x f ≡ false → is_number width x part ≡ false
apart width x None f there free = refl
apart width x (Some octets) f there free = apart_by width x octets f (big_number width octets == x) refl there free

pub taken_are_distinct : TakenAreDistinct
taken_are_distinct kind address other p q t h =
    let parts : HasParts other p = has_parts other p h in
    record {
      v4 = λ x is. apart 4 x (v4_part other) p.v4 parts.v4 (takes_free.v4 x kind address p q t is);
      v6 = λ x is. apart 8 x (v6_part other) p.v6 parts.v6 (takes_free.v6 x kind address p q t is);
    }

-- a family stays one
stays_taken : (bits width : ℕ) (part : Option (List ℕ)) (f g : FamilyParts) → TookPart width part f g → IsFamily bits f → IsFamily bits g
stays_taken bits width None f g t family = subst (λ (h : FamilyParts). IsFamily bits h) (sym t) family
stays_taken bits width (Some octets) f g t family =
    subst (λ (h : FamilyParts). IsFamily bits h) (sym t.after)
    (record { numbers = rise_with 0 f.size t.n f.taken (omega arith) t.below family.numbers; last = family.last })

stays_given : (bits width : ℕ) (part : Option (List ℕ)) (f g : FamilyParts) → GavePart width part f g → IsFamily bits f → IsFamily bits g
stays_given bits width None f g t family = subst (λ (h : FamilyParts). IsFamily bits h) (sym t) family
stays_given bits width (Some octets) f g t family =
    subst (λ (h : FamilyParts). IsFamily bits h) (sym t.after)
    (record { numbers = rise_without 0 f.size (big_number width octets - f.first) f.taken family.numbers; last = family.last })

pub pools_stay : PoolsStay
pools_stay = record {
  taking = λ kind address p q t. let parts = took_parts kind address p q t in record {
    v4 = stays_taken 32 4 (v4_part address) p.v4 q.v4 parts.v4 t.pools.v4;
    v6 = stays_taken 64 8 (v6_part address) p.v6 q.v6 parts.v6 t.pools.v6;
  };
  giving = λ address p q t. let parts = gave_parts address p q t in record {
    v4 = stays_given 32 4 (v4_part address) p.v4 q.v4 parts.v4 t.pools.v4;
    v6 = stays_given 64 8 (v6_part address) p.v6 q.v6 parts.v6 t.pools.v6;
  };
}

-- the pool of two addresses
of_two : List ℕ → PoolsParts
of_two taken = record two_addresses { v4 = record two_addresses.v4 { taken = taken } }

pub pool_of_two : PoolOfTwo
unfolding take_of give_of of_two
pool_of_two = record {
  one = of_two (0 ∷ []);
  both = of_two (0 ∷ 1 ∷ []);
  first = refl;
  second = refl;
  third = refl;
  given = of_two (1 ∷ []);
  giving = refl;
  again = refl;
  no_identifier = refl;
}
