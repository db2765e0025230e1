-- Slices (S-NSSAI, TS 24.501 clause 9.11.2.8), without the length octet.
use Rattle.std.specs.Prelude.{ℕ, Bool, true, List, [], ◌∷◌, length, take, drop, slice_index, nat_eq, ◌||◌, Option, Some, None, if◌then◌else◌}
use Rattle.nas_elements.specs.declared.slice.Slice.{Slice}

-- SST alone, or with a mapped SST
abbrev pub is_sst : ℕ → Bool
is_sst n = nat_eq n 1 || nat_eq n 2

-- SST and SD, alone, with a mapped SST, or with a mapped SST and a mapped SD
abbrev pub is_sst_and_sd : ℕ → Bool
is_sst_and_sd n = nat_eq n 4 || nat_eq n 5 || nat_eq n 8

abbrev pub is_slice_size : ℕ → Bool
is_slice_size n = is_sst n || is_sst_and_sd n

-- the mapped part is passed over
abbrev pub slice_in : List ℕ → Option Slice
slice_in octets =
    if is_sst (length octets) then Some (record { sst = slice_index octets 0; sd = None })
    else if is_sst_and_sd (length octets) then Some (record { sst = slice_index octets 0; sd = Some (take 3 (drop 1 octets)) })
    else None

abbrev pub sd_octets : Option (List ℕ) → List ℕ
sd_octets None = []
sd_octets (Some sd) = sd

-- SST, or SST and SD
abbrev pub slice_octets : Slice → List ℕ
slice_octets slice = slice.sst ∷ sd_octets slice.sd

-- an SD has 3 octets
abbrev pub is_slice : Slice → Bool
is_slice slice = is_sd slice.sd where
  is_sd : Option (List ℕ) → Bool
  is_sd None = true
  is_sd (Some sd) = nat_eq (length sd) 3
