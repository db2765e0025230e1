-- What taking an address, and giving one back, does to each other address.
use Rattle.std.proofs.Common.{◌≡◌, ◌<◌, ◌≤◌, ℕ, true, false, not, List, ap}
use Rattle.std.specs.Prelude.{◌&&◌, ◌||◌, Option, Some, None}
use Rattle.nas_pools.specs.PoolLaws.{GivesOne, TakesFree, TakesLeast, TakesOne, is_number, v4_part, v6_part}
use Rattle.nas_pools.specs.Families.{FamilyParts, is_taken_at}
use Rattle.nas_pools.proofs.FamilyLemmas.{gave_one, took_free, took_least, took_one}
use Rattle.nas_pools.proofs.TakingLemmas.{GavePart, TookPart, gave_parts, took_parts}

part_free : (width x : ℕ) (part : Option (List ℕ)) (f g : FamilyParts) → TookPart width part f g → is_number width x part ≡ true → is_taken_at x f ≡ false
part_free width x None f g t is = absurd (cc)
part_free width x (Some octets) f g t is = took_free width x f octets g t is

part_least : (width x : ℕ) (part : Option (List ℕ)) (f g : FamilyParts) → TookPart width part f g → is_number width x part ≡ true →
    (before : ℕ) → f.first ≤ before → before < x → is_taken_at before f ≡ true
part_least width x None f g t is before above under = absurd (cc)
part_least width x (Some octets) f g t is before above under = took_least width x f octets g t is before above under

part_one : (width x : ℕ) (part : Option (List ℕ)) (f g : FamilyParts) → TookPart width part f g → is_taken_at x g ≡ (is_number width x part || is_taken_at x f)
part_one width x None f g t = ap (is_taken_at x) t
part_one width x (Some octets) f g t = took_one width x f octets g t

given_one : (width x : ℕ) (part : Option (List ℕ)) (f g : FamilyParts) → GavePart width part f g → is_taken_at x g ≡ (not (is_number width x part) && is_taken_at x f)
given_one width x None f g t = ap (is_taken_at x) t
given_one width x (Some octets) f g t = gave_one width x f octets g t

pub takes_free : TakesFree
takes_free = record {
  v4 = λ x kind address p q t is. part_free 4 x (v4_part address) p.v4 q.v4 (took_parts kind address p q t).v4 is;
  v6 = λ x kind address p q t is. part_free 8 x (v6_part address) p.v6 q.v6 (took_parts kind address p q t).v6 is;
}

pub takes_least : TakesLeast
takes_least = record {
  v4 = λ x kind address p q t is before above under. part_least 4 x (v4_part address) p.v4 q.v4 (took_parts kind address p q t).v4 is before above under;
  v6 = λ x kind address p q t is before above under. part_least 8 x (v6_part address) p.v6 q.v6 (took_parts kind address p q t).v6 is before above under;
}

pub takes_one : TakesOne
takes_one = record {
  v4 = λ x kind address p q t. part_one 4 x (v4_part address) p.v4 q.v4 (took_parts kind address p q t).v4;
  v6 = λ x kind address p q t. part_one 8 x (v6_part address) p.v6 q.v6 (took_parts kind address p q t).v6;
}

pub gives_one : GivesOne
gives_one = record {
  v4 = λ x address p q g. given_one 4 x (v4_part address) p.v4 q.v4 (gave_parts address p q g).v4;
  v6 = λ x address p q g. given_one 8 x (v6_part address) p.v6 q.v6 (gave_parts address p q g).v6;
}
