-- The addresses that an SMF gives to its sessions (TS 23.501 clause 5.8.2.2, TS 24.501 clause 9.11.4.10).
use Rattle.std.specs.Prelude.{◌≡◌, ℕ, Bool, List, nat_lt, ◌==◌, ◌&&◌, Option, Some, None, Result, Ok, Err, if◌then◌else◌, unwrap_or, option_map}
use Rattle.std.specs.Option.{option_and_then}
use Rattle.byteorder.specs.Endian.{big_number}
use Rattle.nas_elements.specs.declared.address.Address.{Address}
use Rattle.nas_elements.specs.declared.address.Address.TheVariants.{V4, V6, V4V6}
use Rattle.nas_pools.specs.Config.{Pool6Parts}
use Rattle.nas_pools.specs.Families.{FamilyParts, IsFamily, give_part, has_part, take_least, unused, unused_v6, with_given}
use Rattle.nas_pools.specs.declared.refusals.Empty.{Empty}
use Rattle.nas_pools.specs.declared.refusals.NotTaken.{NotTaken}

-- IPv4 addresses, and interface identifiers of IPv6
pub record PoolsParts : Type 0 where
  pub v4 : FamilyParts
  pub v6 : FamilyParts

-- nothing is taken
abbrev pub unused_pools : List ℕ → ℕ → Option Pool6Parts → PoolsParts
unused_pools first4 size4 pool6 = record { v4 = unused (big_number 4 first4) size4; v6 = unused_v6 pool6 }

-- there are identifiers of IPv6
abbrev pub has_v6 : PoolsParts → Bool
has_v6 p = nat_lt 0 p.v6.size

-- the least free address, and the pools after it is taken; there is none where a family has no free one
abbrev pub take_v4 : PoolsParts → Option (Address × PoolsParts)
take_v4 p = option_map (λ four. (V4 four.0, record p { v4 = four.1 })) (take_least 4 p.v4)

abbrev pub take_v6 : PoolsParts → Option (Address × PoolsParts)
take_v6 p = option_map (λ six. (V6 six.0, record p { v6 = six.1 })) (take_least 8 p.v6)

abbrev pub take_both : PoolsParts → Option (Address × PoolsParts)
take_both p =
    option_and_then (λ four. option_map (λ six. (V4V6 six.0 four.0, record { v4 = four.1; v6 = six.1 })) (take_least 8 p.v6)) (take_least 4 p.v4)

-- by the kind, 1, 2 or 3
unfoldable pub take_of : ℕ → PoolsParts → Option (Address × PoolsParts)
take_of kind p = if kind == 1 then take_v4 p else (if kind == 2 then take_v6 p else take_both p)

-- the address that is taken next
abbrev pub next_of : ℕ → PoolsParts → Option Address
next_of kind p = option_map (λ taking. taking.0) (take_of kind p)

-- the pools after it is taken, where there is one
abbrev pub after_taking : ℕ → PoolsParts → PoolsParts
after_taking kind p = unwrap_or (option_map (λ taking. taking.1) (take_of kind p)) p

-- the pools after an address is given back, where each part of it is taken
unfoldable pub give_of : Address → PoolsParts → Option PoolsParts
give_of (V4 v4) p = option_map (λ four. record p { v4 = four }) (give_part 4 v4 p.v4)
give_of (V6 v6) p = option_map (λ six. record p { v6 = six }) (give_part 8 v6 p.v6)
give_of (V4V6 v6 v4) p =
    option_and_then (λ four. option_map (λ six. record { v4 = four; v6 = six }) (give_part 8 v6 p.v6)) (give_part 4 v4 p.v4)

-- the same, where an address of which a part isn't taken changes nothing
abbrev pub freed : Address → PoolsParts → PoolsParts
freed address p = unwrap_or (give_of address p) p

-- the address that would be taken next if these numbers were given back
abbrev pub next_with : Option ℕ → Option ℕ → ℕ → PoolsParts → Option Address
next_with four six kind p = next_of kind (record { v4 = with_given four p.v4; v6 = with_given six p.v6 })

-- each part of an address is taken
abbrev pub has_address : Address → PoolsParts → Bool
has_address (V4 v4) p = has_part 4 v4 p.v4
has_address (V6 v6) p = has_part 8 v6 p.v6
has_address (V4V6 v6 v4) p = has_part 4 v4 p.v4 && has_part 8 v6 p.v6

-- what was taken of these
abbrev pub Taken : Option (Address × PoolsParts) → Option Address → PoolsParts → PoolsParts → Type 0
Taken taking None old new = (taking ≡ None) × (new ≡ old)
Taken taking (Some address) old new = taking ≡ Some (address, new)

-- what was taken, or that a family was empty, and then nothing
abbrev pub Takes : ℕ → Result Address Empty → PoolsParts → PoolsParts → Type 0
Takes kind (Ok address) old new = take_of kind old ≡ Some (address, new)
Takes kind (Err empty) old new = (take_of kind old ≡ None) × (empty ≡ record { kind = kind }) × (new ≡ old)

abbrev pub Nexts : ℕ → Result Address Empty → PoolsParts → Type 0
Nexts kind (Ok address) p = next_of kind p ≡ Some address
Nexts kind (Err empty) p = (next_of kind p ≡ None) × (empty ≡ record { kind = kind })

-- the address was given back, or a part of it wasn't taken, and then nothing changed
abbrev pub Gives : Address → Result (Unit {0}) NotTaken → PoolsParts → PoolsParts → Type 0
Gives address (Ok _) old new = give_of address old ≡ Some new
Gives address (Err _) old new = (give_of address old ≡ None) × (new ≡ old)

-- Both are families, of IPv4 and of IPv6.
pub record ArePools (p : PoolsParts) : Type 0 where
  pub v4 : IsFamily 32 p.v4
  pub v6 : IsFamily 64 p.v6
