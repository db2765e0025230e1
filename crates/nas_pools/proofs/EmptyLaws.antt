-- No address is taken exactly where a family that the kind names is full.
use Rattle.std.proofs.Common.{◌≡◌, ◌⊎◌, ℕ, Bool, true, false, not, List, arith, refl, ap, inl, inr}
use Rattle.std.specs.Prelude.{◌==◌, Option, Some, None, option_map, if◌then◌else◌}
use Rattle.std.specs.Option.{option_and_then}
use Rattle.std.proofs.lemmas.Bool.Decides.{nat_tests}
use Rattle.nas_elements.specs.declared.address.Address.{Address}
use Rattle.nas_elements.specs.declared.address.Address.TheVariants.{V4, V6, V4V6}
use Rattle.nas_pools.specs.Numbers.{is_in, least_free}
use Rattle.nas_pools.specs.PoolLaws.{EmptyIsFull, IsFull, names_v4, names_v6}
use Rattle.nas_pools.specs.Families.{FamilyParts, octets_of, take_least, with_taken}
use Rattle.nas_pools.specs.Pools.{PoolsParts, take_both, take_of, take_v4, take_v6}
use Rattle.nas_pools.proofs.FailingLemmas.{all_pass_from, failing_none}

full_by : (width : ℕ) (f : FamilyParts) (o : Option ℕ) → least_free f.size f.taken ≡ o →
    option_map {U = List ℕ × FamilyParts} (λ n. (octets_of width f n, with_taken n f)) o ≡ None → IsFull f
full_by width f None is h = λ n below. all_pass_from (λ k. is_in k f.taken) 0 f.size is n (omega arith) (omega arith)
full_by width f (Some n) is h = absurd (cc)

-- a family of which nothing is taken is full
full : (width : ℕ) (f : FamilyParts) → take_least width f ≡ None → IsFull f
full width f h = full_by width f (least_free f.size f.taken) refl h

empty : (width : ℕ) (f : FamilyParts) → IsFull f → take_least width f ≡ None
empty width f h =
    let none : least_free f.size f.taken ≡ None = failing_none (λ k. is_in k f.taken) 0 f.size (λ m above below. h m (omega arith)) in rw none refl

v4_by : (p : PoolsParts) (o : Option (List ℕ × FamilyParts)) → take_least 4 p.v4 ≡ o →
    option_map {U = Address × PoolsParts} (λ four. (V4 four.0, record p { v4 = four.1 })) o ≡ None → IsFull p.v4
v4_by p None is h = full 4 p.v4 is
v4_by p (Some four) is h = absurd (cc)

v6_by : (p : PoolsParts) (o : Option (List ℕ × FamilyParts)) → take_least 8 p.v6 ≡ o →
    option_map {U = Address × PoolsParts} (λ six. (V6 six.0, record p { v6 = six.1 })) o ≡ None → IsFull p.v6
v6_by p None is h = full 8 p.v6 is
v6_by p (Some six) is h = absurd (cc)

both_by : (p : PoolsParts) (o r : Option (List ℕ × FamilyParts)) → take_least 4 p.v4 ≡ o → take_least 8 p.v6 ≡ r →
    option_and_then {U = Address × PoolsParts} (λ four. option_map (λ six. (V4V6 six.0 four.0, record { v4 = four.1; v6 = six.1 })) r) o ≡ None →
    IsFull p.v4 ⊎ IsFull p.v6
both_by p None r is also h = inl (full 4 p.v4 is)
both_by p (Some four) None is also h = inr (full 8 p.v6 also)
both_by p (Some four) (Some six) is also h = absurd (cc)

either : (kind : ℕ) (p : PoolsParts) → (kind == 1) ≡ false → (kind == 2) ≡ false → IsFull p.v4 ⊎ IsFull p.v6 →
    ((names_v4 kind ≡ true) × IsFull p.v4) ⊎ ((names_v6 kind ≡ true) × IsFull p.v6)
either kind p one two h = elim h [ inl f ↦ inl (ap not two, f) | inr f ↦ inr (ap not one, f) ]

some_by : (kind : ℕ) (p : PoolsParts) (one two : Bool) → (kind == 1) ≡ one → (kind == 2) ≡ two →
    (if one then take_v4 p else (if two then take_v6 p else take_both p)) ≡ None → ((names_v4 kind ≡ true) × IsFull p.v4) ⊎ ((names_v6 kind ≡ true) × IsFull p.v6)
some_by kind p true two is also h =
    let other : (kind == 2) ≡ false = grind (arith, nat_tests) in inl (ap not other, v4_by p (take_least 4 p.v4) refl h)
some_by kind p false true is also h = inr (ap not is, v6_by p (take_least 8 p.v6) refl h)
some_by kind p false false is also h = either kind p is also (both_by p (take_least 4 p.v4) (take_least 8 p.v6) refl refl h)

v4_empty_by : (kind : ℕ) (p : PoolsParts) (one two : Bool) → not two ≡ true → take_least 4 p.v4 ≡ None →
    (if one then take_v4 p else (if two then take_v6 p else take_both p)) ≡ None
v4_empty_by kind p true two named none = rw none refl
v4_empty_by kind p false true named none = absurd (cc)
v4_empty_by kind p false false named none = rw none refl

no_both : (p : PoolsParts) (o : Option (List ℕ × FamilyParts)) →
    option_and_then {U = Address × PoolsParts} (λ four. option_map {T = List ℕ × FamilyParts} (λ six. (V4V6 six.0 four.0, record { v4 = four.1; v6 = six.1 })) None) o ≡ None
no_both p None = refl
no_both p (Some four) = refl

v6_empty_by : (kind : ℕ) (p : PoolsParts) (one two : Bool) → not one ≡ true → take_least 8 p.v6 ≡ None →
    (if one then take_v4 p else (if two then take_v6 p else take_both p)) ≡ None
v6_empty_by kind p true two named none = absurd (cc)
v6_empty_by kind p false true named none = rw none refl
v6_empty_by kind p false false named none = rw none (no_both p (take_least 4 p.v4))

pub empty_is_full : EmptyIsFull
unfolding take_of
empty_is_full = record {
  some_full = λ kind p h. some_by kind p (kind == 1) (kind == 2) refl refl h;
  v4_full = λ kind p named h. v4_empty_by kind p (kind == 1) (kind == 2) named (empty 4 p.v4 h);
  v6_full = λ kind p named h. v6_empty_by kind p (kind == 1) (kind == 2) named (empty 8 p.v6 h);
}
