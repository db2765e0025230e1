-- What pools are made of.
use Rattle.std.specs.Prelude.{ℕ, ◌+◌, ◌^◌, Bool, List, nat_le, ◌&&◌, Option, Some, None, if◌then◌else◌}
use Rattle.byteorder.specs.Endian.{big_number}

-- a pool has 1 to 65,536 addresses
abbrev pub is_pool_size : ℕ → Bool
is_pool_size size = nat_le 1 size && nat_le size 65536

-- the IPv4 addresses from this one on, so many, end at or below 255.255.255.255
abbrev pub pool_fits : List ℕ → ℕ → Bool
pool_fits first size = nat_le (big_number 4 first + size) (2 ^ 32)

-- a pool of IPv6 interface identifiers: the first, and how many
pub record Pool6Parts : Type 0 where
  pub first : ℕ
  pub size : ℕ

-- the last identifier is 2^64 - 1 at most
abbrev pub is_pool6 : Pool6Parts → Bool
is_pool6 p = is_pool_size p.size && nat_le (p.first + p.size) (2 ^ 64)

abbrev pub pool6_from : ℕ → ℕ → Option Pool6Parts
pool6_from first size =
    let p : Pool6Parts = record { first = first; size = size } in
    if is_pool6 p then Some p else None
