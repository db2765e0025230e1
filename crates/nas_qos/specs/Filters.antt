-- Packet filters (TS 24.501 clause 9.11.4.13): a direction and an identifier, then components behind their length.
use Rattle.std.specs.Prelude.{ℕ, zero, suc, ◌+◌, ◌*◌, ◌/◌, ◌%◌, Bool, true, not, List, [], ◌∷◌, length, take, drop, slice_index, ◌==◌, nat_eq, nat_lt, ◌&&◌, ◌||◌, Option, Some, None, option_map, if◌then◌else◌}
use Rattle.std.specs.List.{list_all, list_any}
use Rattle.nas_base.specs.Writing.{lv}
use Rattle.nas_qos.specs.Parts.{is_parts, parts_in, parts_octets}
use Rattle.nas_qos.specs.Turns.{all_octets}
use Rattle.nas_qos.specs.declared.part.Part.{Part}

-- an identifier, a direction (1 down, 2 up, 3 both) and components; where an operation only names a filter, the direction is 0 and
-- there is no component
pub record PacketFilter : Type 0 where
  pub id : ℕ
  pub direction : ℕ
  pub parts : List Part

-- how many octets the filter that stands first has: in operation 5 it is its identifier alone
abbrev pub filter_size : ℕ → List ℕ → ℕ
filter_size code octets = if code == 5 then 1 else 2 + slice_index octets 1

-- a filter by its first octet and its contents; direction 0 is a syntax error, and so is a filter without a component
abbrev pub whole_filter : ℕ → List ℕ → Option PacketFilter
whole_filter first contents =
    if nat_eq (first / 16 % 4) 0 || nat_eq (length contents) 0 then None
    else option_map (λ parts. record { id = first % 16; direction = first / 16 % 4; parts = parts }) (parts_in contents)

-- the filter that stands first in an operation with this code; one that is cut is a syntax error
abbrev pub first_filter : ℕ → List ℕ → Option PacketFilter
first_filter code octets =
    if nat_lt (length octets) (filter_size code octets) then None
    else if code == 5 then Some (record { id = slice_index octets 0 % 16; direction = 0; parts = [] })
    else whole_filter (slice_index octets 0) (take (slice_index octets 1) (drop 2 octets))

-- a filter of so many octets before filters of so many octets
abbrev pub filter_before : Option PacketFilter → ℕ → Option (List PacketFilter × ℕ) → Option (List PacketFilter × ℕ)
filter_before None size more = None
filter_before (Some filter) size None = None
filter_before (Some filter) size (Some more) = Some (filter ∷ more.0, size + more.1)

-- the first so many filters, and how many octets they have
abbrev pub filters_in : ℕ → ℕ → List ℕ → Option (List PacketFilter × ℕ)
filters_in zero code octets = Some ([], 0)
filters_in (suc number) code octets =
    filter_before (first_filter code octets) (filter_size code octets) (filters_in number code (drop (filter_size code octets) octets))

-- one of the filters has this identifier
abbrev pub names : ℕ → List PacketFilter → Bool
names id filters = list_any (λ f. nat_eq f.id id) filters

-- no identifier occurs twice
abbrev pub ids_differ : List PacketFilter → Bool
ids_differ [] = true
ids_differ (filter ∷ filters) = not (names filter.id filters) && ids_differ filters

-- an identifier of a filter that occurs twice in one operation is a syntax error
abbrev pub differing : Option (List PacketFilter × ℕ) → Option (List PacketFilter × ℕ)
differing None = None
differing (Some read) = if ids_differ read.0 then Some read else None

-- what a filter is written as, in an operation with this code
abbrev pub filter_octets : ℕ → PacketFilter → List ℕ
filter_octets code filter =
    if code == 5 then filter.id ∷ [] else (16 * filter.direction + filter.id) ∷ lv (parts_octets filter.parts)

abbrev pub filters_octets : ℕ → List PacketFilter → List ℕ
filters_octets code filters = all_octets (filter_octets code) filters

-- an identifier of 4 bits and a direction of 2, with components exactly where there is a direction
abbrev pub has_components : ℕ → List Part → Bool
has_components direction parts = if nat_eq direction 0 then nat_eq (length parts) 0 else nat_lt 0 (length parts)

abbrev pub is_filter : PacketFilter → Bool
is_filter filter =
    nat_lt filter.id 16 && nat_lt filter.direction 4 && is_parts filter.parts && has_components filter.direction filter.parts

-- filters with different identifiers
abbrev pub is_filters : List PacketFilter → Bool
is_filters filters = list_all is_filter filters && ids_differ filters
