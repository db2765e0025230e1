-- The addresses of one family.
use Rattle.std.specs.Prelude.{◌≡◌, ◌≤◌, ℕ, ◌+◌, ◌-◌, ◌^◌, Bool, true, List, [], nat_le, ◌&&◌, Option, Some, None, if◌then◌else◌, option_map}
use Rattle.byteorder.specs.Endian.{big_bytes, big_number}
use Rattle.nas_pools.specs.Config.{Pool6Parts}
use Rattle.nas_pools.specs.Numbers.{is_in, least_free, rise, with_number, without}

-- a family's addresses, numbered from 0: the first as a number, how many there are, and the numbers of those that are taken
pub record FamilyParts : Type 0 where
  pub first : ℕ
  pub size : ℕ
  pub taken : List ℕ

-- nothing is taken
abbrev pub unused : ℕ → ℕ → FamilyParts
unused first size = record { first = first; size = size; taken = [] }

-- where there is no pool of identifiers, there are none
abbrev pub unused_v6 : Option Pool6Parts → FamilyParts
unused_v6 None = unused 0 0
unused_v6 (Some pool) = unused pool.first pool.size

-- the octets of a family's number: 4 of IPv4, 8 of IPv6
abbrev pub octets_of : ℕ → FamilyParts → ℕ → List ℕ
octets_of width f n = big_bytes width (f.first + n)

abbrev pub with_taken : ℕ → FamilyParts → FamilyParts
with_taken n f = record f { taken = with_number n f.taken }

abbrev pub without_taken : ℕ → FamilyParts → FamilyParts
without_taken n f = record f { taken = without n f.taken }

-- the address that is this number is taken
abbrev pub is_taken_at : ℕ → FamilyParts → Bool
is_taken_at address f = nat_le f.first address && is_in (address - f.first) f.taken

-- which of the family's it is, where it is taken
abbrev pub taken_at : ℕ → FamilyParts → Option ℕ
taken_at address f = if is_taken_at address f then Some (address - f.first) else None

-- the same by its octets
abbrev pub has_part : ℕ → List ℕ → FamilyParts → Bool
has_part width octets f = is_taken_at (big_number width octets) f

abbrev pub taken_number : ℕ → List ℕ → FamilyParts → Option ℕ
taken_number width octets f = taken_at (big_number width octets) f

-- the family after a number is given back, or where there is none to give
abbrev pub with_given : Option ℕ → FamilyParts → FamilyParts
with_given None f = f
with_given (Some n) f = without_taken n f

-- the octets of the least number that is free, and the family after it is taken
abbrev pub take_least : ℕ → FamilyParts → Option (List ℕ × FamilyParts)
take_least width f = option_map (λ n. (octets_of width f n, with_taken n f)) (least_free f.size f.taken)

-- the family after these octets are given back, where they are taken
abbrev pub give_part : ℕ → List ℕ → FamilyParts → Option FamilyParts
give_part width octets f = option_map (λ n. without_taken n f) (taken_number width octets f)

-- The numbers that are taken rise and are below the size, and the last address is one of its family.
pub record IsFamily (bits : ℕ) (f : FamilyParts) : Type 0 where
  pub numbers : rise 0 f.size f.taken ≡ true
  pub last : f.first + f.size ≤ 2 ^ bits
