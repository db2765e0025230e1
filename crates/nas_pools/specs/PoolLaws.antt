-- What taking and giving back say together.
use Rattle.std.specs.Prelude.{◌≡◌, ◌≤◌, ◌<◌, ◌⊎◌, ℕ, Bool, true, false, not, List, [], ◌∷◌, ◌==◌, ◌&&◌, ◌||◌, Option, Some, None, is_some}
use Rattle.byteorder.specs.Endian.{big_number}
use Rattle.nas_elements.specs.declared.address.Address.{Address}
use Rattle.nas_elements.specs.declared.address.Address.TheVariants.{V4, V6, V4V6}
use Rattle.nas_pools.specs.Numbers.{is_in}
use Rattle.nas_pools.specs.Families.{FamilyParts, is_taken_at}
use Rattle.nas_pools.specs.Pools.{ArePools, PoolsParts, give_of, has_address, take_of, unused_pools}

-- the parts of an address
abbrev pub v4_part : Address → Option (List ℕ)
v4_part (V4 v4) = Some v4
v4_part (V6 v6) = None
v4_part (V4V6 v6 v4) = Some v4

abbrev pub v6_part : Address → Option (List ℕ)
v6_part (V4 v4) = None
v6_part (V6 v6) = Some v6
v6_part (V4V6 v6 v4) = Some v6

-- a part's octets are this number
abbrev pub is_number : ℕ → ℕ → Option (List ℕ) → Bool
is_number width x None = false
is_number width x (Some octets) = big_number width octets == x

-- an address's IPv4 address is this number, and its interface identifier
abbrev pub is_v4 : ℕ → Address → Bool
is_v4 x address = is_number 4 x (v4_part address)

abbrev pub is_v6 : ℕ → Address → Bool
is_v6 x address = is_number 8 x (v6_part address)

-- an address is taken of these pools, which leaves those
pub record Taking (kind : ℕ) (p : PoolsParts) (address : Address) (q : PoolsParts) : Type 0 where
  pub pools : ArePools p
  pub taking : take_of kind p ≡ Some (address, q)

-- it is given back
pub record Giving (address : Address) (p q : PoolsParts) : Type 0 where
  pub pools : ArePools p
  pub giving : give_of address p ≡ Some q

-- What is taken was free.
pub record TakesFree : Type 0 where
  pub v4 : (x kind : ℕ) (address : Address) (p q : PoolsParts) → Taking kind p address q → is_v4 x address ≡ true → is_taken_at x p.v4 ≡ false
  pub v6 : (x kind : ℕ) (address : Address) (p q : PoolsParts) → Taking kind p address q → is_v6 x address ≡ true → is_taken_at x p.v6 ≡ false

-- It is the least that was: each address of the family before it is taken.
pub record TakesLeast : Type 0 where
  pub v4 : (x kind : ℕ) (address : Address) (p q : PoolsParts) → Taking kind p address q → is_v4 x address ≡ true →
      (before : ℕ) → p.v4.first ≤ before → before < x → is_taken_at before p.v4 ≡ true
  pub v6 : (x kind : ℕ) (address : Address) (p q : PoolsParts) → Taking kind p address q → is_v6 x address ≡ true →
      (before : ℕ) → p.v6.first ≤ before → before < x → is_taken_at before p.v6 ≡ true

-- Afterwards it is taken, and all others are as before.
pub record TakesOne : Type 0 where
  pub v4 : (x kind : ℕ) (address : Address) (p q : PoolsParts) → Taking kind p address q → is_taken_at x q.v4 ≡ (is_v4 x address || is_taken_at x p.v4)
  pub v6 : (x kind : ℕ) (address : Address) (p q : PoolsParts) → Taking kind p address q → is_taken_at x q.v6 ≡ (is_v6 x address || is_taken_at x p.v6)

-- After an address was given back it is free, and all others are as before.
pub record GivesOne : Type 0 where
  pub v4 : (x : ℕ) (address : Address) (p q : PoolsParts) → Giving address p q → is_taken_at x q.v4 ≡ (not (is_v4 x address) && is_taken_at x p.v4)
  pub v6 : (x : ℕ) (address : Address) (p q : PoolsParts) → Giving address p q → is_taken_at x q.v6 ≡ (not (is_v6 x address) && is_taken_at x p.v6)

-- An address is given back exactly where each part of it is taken.
abbrev pub GivesTaken : Type 0
GivesTaken = (address : Address) (p : PoolsParts) → is_some (give_of address p) ≡ has_address address p

-- Two addresses that are taken at one time have no part in common.
pub record AreApart (address other : Address) : Type 0 where
  pub v4 : (x : ℕ) → is_v4 x address ≡ true → is_v4 x other ≡ false
  pub v6 : (x : ℕ) → is_v6 x address ≡ true → is_v6 x other ≡ false

abbrev pub TakenAreDistinct : Type 0
TakenAreDistinct =
    (kind : ℕ) (address other : Address) (p q : PoolsParts) → Taking kind p address q → has_address other p ≡ true → AreApart address other

-- Giving back what was taken undoes the taking, so that it is taken again.
abbrev pub GivingUndoes : Type 0
GivingUndoes = (kind : ℕ) (address : Address) (p q : PoolsParts) → Taking kind p address q → give_of address q ≡ Some p

-- all addresses of a family are taken
abbrev pub IsFull : FamilyParts → Type 0
IsFull f = (n : ℕ) → n < f.size → is_in n f.taken ≡ true

-- the kind names the family
abbrev pub names_v4 : ℕ → Bool
names_v4 kind = not (kind == 2)

abbrev pub names_v6 : ℕ → Bool
names_v6 kind = not (kind == 1)

-- Nothing is taken exactly where a family that the kind names is full.
pub record EmptyIsFull : Type 0 where
  pub some_full : (kind : ℕ) (p : PoolsParts) → take_of kind p ≡ None →
      ((names_v4 kind ≡ true) × IsFull p.v4) ⊎ ((names_v6 kind ≡ true) × IsFull p.v6)
  pub v4_full : (kind : ℕ) (p : PoolsParts) → names_v4 kind ≡ true → IsFull p.v4 → take_of kind p ≡ None
  pub v6_full : (kind : ℕ) (p : PoolsParts) → names_v6 kind ≡ true → IsFull p.v6 → take_of kind p ≡ None

-- Pools stay pools.
pub record PoolsStay : Type 0 where
  pub taking : (kind : ℕ) (address : Address) (p q : PoolsParts) → Taking kind p address q → ArePools q
  pub giving : (address : Address) (p q : PoolsParts) → Giving address p q → ArePools q

-- Of two addresses from 10.45.0.2 on the first is taken first, then the second, and then none; the first again once it was given
-- back. There is no identifier of IPv6.
abbrev pub two_addresses : PoolsParts
two_addresses = unused_pools (10 ∷ 45 ∷ 0 ∷ 2 ∷ []) 2 None

pub record PoolOfTwo : Type 0 where
  pub one : PoolsParts
  pub both : PoolsParts
  pub first : take_of 1 two_addresses ≡ Some (V4 (10 ∷ 45 ∷ 0 ∷ 2 ∷ []), one)
  pub second : take_of 1 one ≡ Some (V4 (10 ∷ 45 ∷ 0 ∷ 3 ∷ []), both)
  pub third : take_of 1 both ≡ None
  pub given : PoolsParts
  pub giving : give_of (V4 (10 ∷ 45 ∷ 0 ∷ 2 ∷ [])) both ≡ Some given
  pub again : take_of 1 given ≡ Some (V4 (10 ∷ 45 ∷ 0 ∷ 2 ∷ []), both)
  pub no_identifier : take_of 2 two_addresses ≡ None
