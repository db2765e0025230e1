-- The components of a packet filter (TS 24.501 clause 9.11.4.13): an octet of the type, and a value whose size the type tells.
use Rattle.std.specs.Prelude.{ℕ, ◌+◌, Bool, true, List, [], ◌∷◌, ◌++◌, length, take, drop, slice_index, ◌==◌, nat_eq, nat_lt, nat_le, ◌&&◌, ◌||◌, Option, Some, None, if◌then◌else◌}
use Rattle.std.specs.List.{list_all}
use Rattle.std.specs.Result.{result_ok}
use Rattle.byteorder.specs.Endian.{big_bytes, big_number}
use Rattle.nas_qos.specs.Turns.{all_octets, in_turn}
use Rattle.nas_qos.specs.declared.part.Part.{Part}
use Rattle.nas_qos.specs.declared.part.Part.TheVariants.{All, Remote, Local, Protocol, LocalPort, RemotePort, LocalPorts, RemotePorts}

-- how many octets the value of a component of this type has
abbrev pub value_size : ℕ → ℕ
value_size kind =
    if kind == 0x10 || kind == 0x11 then 8
    else if kind == 0x30 then 1
    else if kind == 0x40 || kind == 0x50 then 2
    else if kind == 0x41 || kind == 0x51 then 4
    else 0

-- the component of this type with the value that stands first; a component of another type is a syntax error
abbrev pub part_of : ℕ → List ℕ → Option Part
part_of kind octets =
    if kind == 0x01 then Some All
    else if kind == 0x10 then Some (Remote (take 4 octets) (take 4 (drop 4 octets)))
    else if kind == 0x11 then Some (Local (take 4 octets) (take 4 (drop 4 octets)))
    else if kind == 0x30 then Some (Protocol (slice_index octets 0))
    else if kind == 0x40 then Some (LocalPort (big_number 2 octets))
    else if kind == 0x50 then Some (RemotePort (big_number 2 octets))
    else if kind == 0x41 then Some (LocalPorts (big_number 2 octets) (big_number 2 (drop 2 octets)))
    else if kind == 0x51 then Some (RemotePorts (big_number 2 octets) (big_number 2 (drop 2 octets)))
    else None

-- the component that stands first; one whose value is cut is a syntax error
abbrev pub first_part : List ℕ → Option Part
first_part [] = None
first_part (kind ∷ octets) = if nat_le (value_size kind) (length octets) then part_of kind octets else None

-- how many octets the component that stands first has
abbrev pub part_size : List ℕ → ℕ
part_size octets = 1 + value_size (slice_index octets 0)

-- the components of a filter's contents
abbrev pub parts_in : List ℕ → Option (List Part)
parts_in octets = result_ok (in_turn (λ at os. first_part os) part_size (length octets) 0 octets)

-- what a component is written as
abbrev pub part_octets : Part → List ℕ
part_octets All = 0x01 ∷ []
part_octets (Remote address mask) = 0x10 ∷ (address ++ mask)
part_octets (Local address mask) = 0x11 ∷ (address ++ mask)
part_octets (Protocol protocol) = 0x30 ∷ protocol ∷ []
part_octets (LocalPort port) = 0x40 ∷ big_bytes 2 port
part_octets (RemotePort port) = 0x50 ∷ big_bytes 2 port
part_octets (LocalPorts low high) = 0x41 ∷ (big_bytes 2 low ++ big_bytes 2 high)
part_octets (RemotePorts low high) = 0x51 ∷ (big_bytes 2 low ++ big_bytes 2 high)

abbrev pub parts_octets : List Part → List ℕ
parts_octets parts = all_octets part_octets parts

-- an address has 4 octets, a port 16 bits
abbrev pub is_part : Part → Bool
is_part All = true
is_part (Remote address mask) = nat_eq (length address) 4 && nat_eq (length mask) 4
is_part (Local address mask) = nat_eq (length address) 4 && nat_eq (length mask) 4
is_part (Protocol protocol) = true
is_part (LocalPort port) = nat_lt port 65536
is_part (RemotePort port) = nat_lt port 65536
is_part (LocalPorts low high) = nat_lt low 65536 && nat_lt high 65536
is_part (RemotePorts low high) = nat_lt low 65536 && nat_lt high 65536

-- all of them fit behind a length of one octet
abbrev pub is_parts : List Part → Bool
is_parts parts = list_all is_part parts && nat_le (length (parts_octets parts)) 255
