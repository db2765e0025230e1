-- What taking an address and giving one back is for each family.
use Rattle.std.proofs.Common.{◌≡◌, ℕ, Bool, true, false, List, refl, subst}
use Rattle.std.specs.Prelude.{◌==◌, Option, Some, None, option_map, if◌then◌else◌}
use Rattle.std.specs.Option.{option_and_then}
use Rattle.std.proofs.lemmas.Option.{same_Some, some_pair_parts}
use Rattle.nas_elements.specs.declared.address.Address.{Address}
use Rattle.nas_elements.specs.declared.address.Address.TheVariants.{V4, V6, V4V6}
use Rattle.nas_pools.specs.PoolLaws.{Giving, Taking, v4_part, v6_part}
use Rattle.nas_pools.specs.Families.{FamilyParts, give_part, take_least}
use Rattle.nas_pools.specs.Pools.{ArePools, PoolsParts, give_of, take_both, take_of, take_v4, take_v6}
use Rattle.nas_pools.proofs.FamilyLemmas.{Gave, Took, gave, took}

-- a family of which a part was taken, and one of which none was
abbrev pub TookPart : ℕ → Option (List ℕ) → FamilyParts → FamilyParts → Type 0
TookPart width None f g = g ≡ f
TookPart width (Some octets) f g = Took width f octets g

pub record TookParts (address : Address) (p q : PoolsParts) : Type 0 where
  pub v4 : TookPart 4 (v4_part address) p.v4 q.v4
  pub v6 : TookPart 8 (v6_part address) p.v6 q.v6

-- by what was answered
told : (address other : Address) (p q r : PoolsParts) → ◌≡◌ {A = Option (Address × PoolsParts)} (Some (other, r)) (Some (address, q)) → TookParts other p r → TookParts address p q
told address other p q r h t =
    let parts = some_pair_parts other address r q h in
    subst (λ (a : Address). TookParts a p q) parts.0 (subst (λ (s : PoolsParts). TookParts other p s) parts.1 t)

took_v4_by : (address : Address) (p q : PoolsParts) (o : Option (List ℕ × FamilyParts)) → take_least 4 p.v4 ≡ o → ArePools p →
    option_map {U = Address × PoolsParts} (λ four. (V4 four.0, record p { v4 = four.1 })) o ≡ Some (address, q) → TookParts address p q
took_v4_by address p q None e pools h = absurd (cc)
took_v4_by address p q (Some four) e pools h =
    told address (V4 four.0) p q (record p { v4 = four.1 }) h (record { v4 = took 4 p.v4 four.0 four.1 pools.v4.last e; v6 = refl })

took_v6_by : (address : Address) (p q : PoolsParts) (o : Option (List ℕ × FamilyParts)) → take_least 8 p.v6 ≡ o → ArePools p →
    option_map {U = Address × PoolsParts} (λ six. (V6 six.0, record p { v6 = six.1 })) o ≡ Some (address, q) → TookParts address p q
took_v6_by address p q None e pools h = absurd (cc)
took_v6_by address p q (Some six) e pools h =
    told address (V6 six.0) p q (record p { v6 = six.1 }) h (record { v4 = refl; v6 = took 8 p.v6 six.0 six.1 pools.v6.last e })

took_both_by : (address : Address) (p q : PoolsParts) (o r : Option (List ℕ × FamilyParts)) → take_least 4 p.v4 ≡ o → take_least 8 p.v6 ≡ r → ArePools p →
    option_and_then {U = Address × PoolsParts} (λ four. option_map (λ six. (V4V6 six.0 four.0, record { v4 = four.1; v6 = six.1 })) r) o ≡ Some (address, q) →
    TookParts address p q
took_both_by address p q None r e f pools h = absurd (cc)
took_both_by address p q (Some four) None e f pools h = absurd (cc)
took_both_by address p q (Some four) (Some six) e f pools h =
    told address (V4V6 six.0 four.0) p q (record { v4 = four.1; v6 = six.1 }) h
    (record { v4 = took 4 p.v4 four.0 four.1 pools.v4.last e; v6 = took 8 p.v6 six.0 six.1 pools.v6.last f })

took_kind_by : (kind : ℕ) (address : Address) (p q : PoolsParts) (one two : Bool) → ArePools p →
    (if one then take_v4 p else (if two then take_v6 p else take_both p)) ≡ Some (address, q) → TookParts address p q
took_kind_by kind address p q true two pools h = took_v4_by address p q (take_least 4 p.v4) refl pools h
took_kind_by kind address p q false true pools h = took_v6_by address p q (take_least 8 p.v6) refl pools h
took_kind_by kind address p q false false pools h = took_both_by address p q (take_least 4 p.v4) (take_least 8 p.v6) refl refl pools h

pub took_parts : (kind : ℕ) (address : Address) (p q : PoolsParts) → Taking kind p address q → TookParts address p q
unfolding take_of
took_parts kind address p q t = took_kind_by kind address p q (kind == 1) (kind == 2) t.pools t.taking

-- the same for what was given back
abbrev pub GavePart : ℕ → Option (List ℕ) → FamilyParts → FamilyParts → Type 0
GavePart width None f g = g ≡ f
GavePart width (Some octets) f g = Gave width f octets g

pub record GaveParts (address : Address) (p q : PoolsParts) : Type 0 where
  pub v4 : GavePart 4 (v4_part address) p.v4 q.v4
  pub v6 : GavePart 8 (v6_part address) p.v6 q.v6

gave_told : (address : Address) (p q r : PoolsParts) → Some r ≡ Some q → GaveParts address p r → GaveParts address p q
gave_told address p q r h g = subst (λ (s : PoolsParts). GaveParts address p s) (same_Some r q h) g

gave_v4_by : (v4 : List ℕ) (p q : PoolsParts) (o : Option FamilyParts) → give_part 4 v4 p.v4 ≡ o →
    option_map {U = PoolsParts} (λ four. record p { v4 = four }) o ≡ Some q → GaveParts (V4 v4) p q
gave_v4_by v4 p q None e h = absurd (cc)
gave_v4_by v4 p q (Some four) e h = gave_told (V4 v4) p q (record p { v4 = four }) h (record { v4 = gave 4 p.v4 v4 four e; v6 = refl })

gave_v6_by : (v6 : List ℕ) (p q : PoolsParts) (o : Option FamilyParts) → give_part 8 v6 p.v6 ≡ o →
    option_map {U = PoolsParts} (λ six. record p { v6 = six }) o ≡ Some q → GaveParts (V6 v6) p q
gave_v6_by v6 p q None e h = absurd (cc)
gave_v6_by v6 p q (Some six) e h = gave_told (V6 v6) p q (record p { v6 = six }) h (record { v4 = refl; v6 = gave 8 p.v6 v6 six e })

gave_both_by : (v6 v4 : List ℕ) (p q : PoolsParts) (o r : Option FamilyParts) → give_part 4 v4 p.v4 ≡ o → give_part 8 v6 p.v6 ≡ r →
    option_and_then {U = PoolsParts} (λ four. option_map (λ six. record { v4 = four; v6 = six }) r) o ≡ Some q → GaveParts (V4V6 v6 v4) p q
gave_both_by v6 v4 p q None r e f h = absurd (cc)
gave_both_by v6 v4 p q (Some four) None e f h = absurd (cc)
gave_both_by v6 v4 p q (Some four) (Some six) e f h =
    gave_told (V4V6 v6 v4) p q (record { v4 = four; v6 = six }) h (record { v4 = gave 4 p.v4 v4 four e; v6 = gave 8 p.v6 v6 six f })

gave_address : (address : Address) (p q : PoolsParts) → give_of address p ≡ Some q → GaveParts address p q
unfolding give_of
gave_address (V4 v4) p q h = gave_v4_by v4 p q (give_part 4 v4 p.v4) refl h
gave_address (V6 v6) p q h = gave_v6_by v6 p q (give_part 8 v6 p.v6) refl h
gave_address (V4V6 v6 v4) p q h = gave_both_by v6 v4 p q (give_part 4 v4 p.v4) (give_part 8 v6 p.v6) refl refl h

pub gave_parts : (address : Address) (p q : PoolsParts) → Giving address p q → GaveParts address p q
gave_parts address p q g = gave_address address p q g.giving
