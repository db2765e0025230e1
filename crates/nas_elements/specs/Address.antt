-- PDU addresses (TS 24.501 clause 9.11.4.10).
use Rattle.std.specs.Prelude.{ℕ, ◌%◌, List, [], ◌∷◌, ◌++◌, length, take, drop, min, ◌==◌, Option, Some, None, if◌then◌else◌}
use Rattle.nas_elements.specs.declared.address.Address.{Address}
use Rattle.nas_elements.specs.declared.address.Address.TheVariants.{V4, V6, V4V6}

-- 4 octets; an interface identifier of 8; this identifier, and then 4 octets
abbrev pub v4_in : List ℕ → Option Address
v4_in octets = if length octets == 4 then Some (V4 octets) else None

abbrev pub v6_in : List ℕ → Option Address
v6_in octets = if length octets == 8 then Some (V6 octets) else None

abbrev pub v4v6_in : List ℕ → Option Address
v4v6_in octets = if length octets == 12 then Some (V4V6 (take 8 octets) (drop 8 octets)) else None

-- by the kind, 1, 2 or 3
abbrev pub kind_in : ℕ → List ℕ → Option Address
kind_in kind octets =
    if kind == 1 then v4_in octets
    else (if kind == 2 then v6_in octets
    else (if kind == 3 then v4v6_in octets else None))

-- bits 1 to 3 of the first octet tell the kind; the other bits are passed over
abbrev pub address_in : List ℕ → Option Address
address_in [] = None
address_in (first ∷ octets) = kind_in (first % 8) octets

abbrev pub address_octets : Address → List ℕ
address_octets (V4 v4) = 1 ∷ v4
address_octets (V6 v6) = 2 ∷ v6
address_octets (V4V6 v6 v4) = 3 ∷ (v6 ++ v4)

-- how many octets an address of a kind has, the first among them, and 0 where there is no such kind
abbrev pub size_of_kind : ℕ → ℕ
size_of_kind kind = if kind == 1 then 5 else (if kind == 2 then 9 else (if kind == 3 then 13 else 0))

-- how many octets, from the first on, can start an address
abbrev pub address_front : List ℕ → ℕ
address_front [] = 0
address_front (first ∷ octets) = min (length (first ∷ octets)) (size_of_kind (first % 8))
