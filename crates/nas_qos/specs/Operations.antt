-- Operations on QoS rules (TS 24.501 clause 9.11.4.13): a rule's identifier, and behind a length of two octets what is done with it.
use Rattle.std.specs.Prelude.{ℕ, ◌+◌, ◌-◌, ◌*◌, ◌/◌, ◌%◌, Bool, not, List, [], ◌∷◌, ◌++◌, length, take, drop, ◌==◌, nat_eq, nat_lt, nat_le, ◌&&◌, ◌||◌, Option, Some, None, Result, if◌then◌else◌}
use Rattle.std.specs.List.{list_all}
use Rattle.byteorder.specs.Endian.{big_number}
use Rattle.nas_base.specs.Writing.{lve}
use Rattle.nas_qos.specs.Filters.{PacketFilter, differing, filters_in, filters_octets, is_filters}
use Rattle.nas_qos.specs.Turns.{all_octets, in_turn}

-- Operation codes: 1 create, 2 delete, 3 add filters, 4 replace filters, 5 delete filters, 6 change without filters. The tail is a
-- precedence and a QFI.
pub record Operation : Type 0 where
  pub id : ℕ
  pub code : ℕ
  pub default : Bool
  pub filters : List PacketFilter
  pub tail : Option (ℕ × ℕ)

-- codes 0 and 7 are syntax errors
abbrev pub is_code : ℕ → Bool
is_code code = nat_lt 0 code && nat_lt code 7

-- operations 2 and 6 have no filter, the others 1 to 15
abbrev pub has_number : ℕ → ℕ → Bool
has_number code number = if code == 2 || code == 6 then nat_eq number 0 else nat_lt 0 number && nat_lt number 16

-- the tail is all that stands behind the filters; create has one, the others may have one
abbrev pub tail_in : ℕ → List ℕ → Option (Option (ℕ × ℕ))
tail_in code [] = if code == 1 then None else Some None
tail_in code (precedence ∷ []) = None
tail_in code (precedence ∷ qfi ∷ []) = Some (Some (precedence, qfi % 64))
tail_in code (precedence ∷ qfi ∷ other ∷ octets) = None

-- an operation with this tail, where it has one
abbrev pub operation_of : ℕ → ℕ → Bool → List PacketFilter → Option (Option (ℕ × ℕ)) → Option Operation
operation_of id code default filters None = None
operation_of id code default filters (Some tail) =
    Some (record { id = id; code = code; default = default; filters = filters; tail = tail })

-- an operation with these filters, of so many octets, which stand first in the octets
abbrev pub operation_with : ℕ → ℕ → Bool → List ℕ → Option (List PacketFilter × ℕ) → Option Operation
operation_with id code default octets None = None
operation_with id code default octets (Some read) =
    operation_of id code default read.0 (tail_in code (drop read.1 octets))

-- the operation on this rule with these contents: the code in bits 6 to 8, the default bit 5, the number of filters in bits 1 to 4
abbrev pub operation_in : ℕ → List ℕ → Option Operation
operation_in id [] = None
operation_in id (first ∷ octets) =
    if is_code (first / 32) && has_number (first / 32) (first % 16)
    then operation_with id (first / 32) (first / 16 % 2 == 1) octets (differing (filters_in (first % 16) (first / 32) octets))
    else None

-- how many octets the operation that stands first has: identifier, length, contents
abbrev pub operation_size : List ℕ → ℕ
operation_size octets = 3 + big_number 2 (drop 1 octets)

-- the operation is there whole
abbrev pub is_there_whole : List ℕ → Bool
is_there_whole octets = nat_le 3 (length octets) && nat_le (operation_size octets) (length octets)

-- an operation that starts at this place ends within the 2,048 octets that a list has at most
abbrev pub ends_in_time : ℕ → List ℕ → Bool
ends_in_time at octets = nat_le (at + operation_size octets) 2048

-- identifier 0 names no rule
abbrev pub names_a_rule : ℕ → Bool
names_a_rule id = nat_lt 0 id

-- the operation that stands first, at this place in the list
abbrev pub first_operation : ℕ → List ℕ → Option Operation
first_operation at [] = None
first_operation at (id ∷ octets) =
    if is_there_whole (id ∷ octets) && ends_in_time at (id ∷ octets) && names_a_rule id
    then operation_in id (take (operation_size (id ∷ octets) - 3) (drop 3 (id ∷ octets)))
    else None

-- a list of operations: all of them, or the place of the first that is wrong
abbrev pub ops_in : List ℕ → Result (List Operation) ℕ
ops_in octets = in_turn first_operation operation_size (length octets) 0 octets

abbrev pub tail_octets : Option (ℕ × ℕ) → List ℕ
tail_octets None = []
tail_octets (Some tail) = tail.0 ∷ tail.1 ∷ []

-- the first octet of an operation's contents
abbrev pub first_octet : Operation → ℕ
first_octet op = 32 * op.code + (if op.default then 16 else 0) + length op.filters

abbrev pub contents : Operation → List ℕ
contents op = first_octet op ∷ (filters_octets op.code op.filters ++ tail_octets op.tail)

-- what an operation is written as
abbrev pub operation_octets : Operation → List ℕ
operation_octets op = op.id ∷ lve (contents op)

abbrev pub ops_octets : List Operation → List ℕ
ops_octets ops = all_octets operation_octets ops

-- the filters of operation 5 are identifiers alone, those of others have a direction
abbrev pub is_directed : ℕ → PacketFilter → Bool
is_directed code filter = if code == 5 then nat_eq filter.direction 0 else nat_lt 0 filter.direction

-- a QFI has 6 bits
abbrev pub is_tail : ℕ → Option (ℕ × ℕ) → Bool
is_tail code None = not (code == 1)
is_tail code (Some tail) = nat_lt tail.1 64

abbrev pub is_operation : Operation → Bool
is_operation op =
    nat_lt 0 op.id && is_code op.code && has_number op.code (length op.filters) && is_filters op.filters
    && list_all (is_directed op.code) op.filters && is_tail op.code op.tail

-- a list of operations has at most 2,048 octets
abbrev pub is_ops : List Operation → Bool
is_ops ops = list_all is_operation ops && nat_le (length (ops_octets ops)) 2048
