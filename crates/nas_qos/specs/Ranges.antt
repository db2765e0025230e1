-- What readers say of a part that they found, besides that it is the part: its values lie in their ranges, and it would be written as
-- so many octets as it was read from.
use Rattle.std.specs.Prelude.{ℕ, ◌+◌, Bool, List, length, nat_eq, nat_le, ◌&&◌}
use Rattle.std.specs.List.{list_all}
use Rattle.nas_qos.specs.Filters.{PacketFilter, filter_octets, filter_size, filters_octets, is_filter, is_filters}
use Rattle.nas_qos.specs.Operations.{Operation, is_directed, is_operation, operation_octets, operation_size}
use Rattle.nas_qos.specs.Parts.{parts_octets}

-- a filter with these contents
abbrev pub is_whole : List ℕ → PacketFilter → Bool
is_whole contents filter =
    is_filter filter && nat_le 1 filter.direction && nat_eq (length (parts_octets filter.parts)) (length contents)

-- the filter that stands first in the octets of an operation with this code
abbrev pub is_filter_of : ℕ → List ℕ → PacketFilter → Bool
is_filter_of code octets filter =
    is_filter filter && is_directed code filter && nat_eq (length (filter_octets code filter)) (filter_size code octets)
    && nat_le (filter_size code octets) (length octets)

-- so many filters, and so many octets of them, which stand first in the octets of an operation with this code
abbrev pub are_filters_of : ℕ → ℕ → List ℕ → (List PacketFilter × ℕ) → Bool
are_filters_of number code octets read =
    is_filters read.0 && list_all (is_directed code) read.0 && nat_eq (length read.0) number
    && nat_eq (length (filters_octets code read.0)) read.1 && nat_le read.1 (length octets)

-- an operation with so many octets of contents
abbrev pub is_operation_of : ℕ → Operation → Bool
is_operation_of size op = is_operation op && nat_eq (length (operation_octets op)) (3 + size)

-- the operation that stands first in the octets, at this place in the list
abbrev pub is_operation_at : ℕ → List ℕ → Operation → Bool
is_operation_at at octets op =
    is_operation op && nat_eq (length (operation_octets op)) (operation_size octets)
    && nat_le (operation_size octets) (length octets) && nat_le (at + operation_size octets) 2048
