-- Lists of slices (NSSAI, TS 24.501 clause 9.11.3.37).
use Rattle.std.specs.Prelude.{ℕ, zero, suc, ◌+◌, ◌-◌, Bool, List, [], ◌∷◌, ◌++◌, length, take, drop, nat_lt, nat_le, ◌&&◌, Option, Some, None, if◌then◌else◌}
use Rattle.std.specs.List.{list_all}
use Rattle.nas_base.specs.Writing.{lv}
use Rattle.nas_elements.specs.Slice.{is_slice, is_slice_size, slice_in, slice_octets}
use Rattle.nas_elements.specs.declared.slice.Slice.{Slice}

-- the slice that stands first, behind its length octet
abbrev pub first_in : List ℕ → Option Slice
first_in [] = None
first_in (size ∷ octets) = if nat_le size (length octets) then slice_in (take size octets) else None

-- a slice, and others behind it
abbrev pub before : Option Slice → Option (List Slice) → Option (List Slice)
before None slices = None
before (Some slice) None = None
before (Some slice) (Some slices) = Some (slice ∷ slices)

-- so many slices at most, each a length octet and its contents
abbrev pub slices_in : ℕ → List ℕ → Option (List Slice)
slices_in most [] = Some []
slices_in zero (size ∷ octets) = None
slices_in (suc most) (size ∷ octets) = before (first_in (size ∷ octets)) (slices_in most (drop size octets))

-- 1 to 8 slices
abbrev pub nssai_in : List ℕ → Option (List Slice)
nssai_in octets = if nat_lt 0 (length octets) then slices_in 8 octets else None

-- each slice behind its length octet
abbrev pub nssai_octets : List Slice → List ℕ
nssai_octets [] = []
nssai_octets (slice ∷ slices) = lv (slice_octets slice) ++ nssai_octets slices

abbrev pub has_nssai_size : List Slice → Bool
has_nssai_size slices = nat_lt 0 (length slices) && nat_le (length slices) 8

-- 1 to 8 slices, each of which has octets
abbrev pub is_nssai : List Slice → Bool
is_nssai slices = has_nssai_size slices && list_all is_slice slices

abbrev pub nssai_from : List Slice → Option (List Slice)
nssai_from slices = if has_nssai_size slices then Some slices else None

-- where so many slices may still come, one starts with this length octet
abbrev pub starts_slice : ℕ → ℕ → Bool
starts_slice most size = nat_lt 0 most && is_slice_size size

-- how many octets, from the first on, can start so many slices at most, behind what is still owed of a slice
abbrev pub slices_front : ℕ → ℕ → List ℕ → ℕ
slices_front most owed [] = 0
slices_front most zero (size ∷ octets) =
    if starts_slice most size then 1 + slices_front (most - 1) size octets else 0
slices_front most (suc owed) (octet ∷ octets) = 1 + slices_front most owed octets
