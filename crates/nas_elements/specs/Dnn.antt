-- Data network names (TS 23.003 clause 9.1, TS 24.501 clause 9.11.2.1B).
use Rattle.std.specs.Prelude.{ℕ, zero, suc, ◌+◌, ◌-◌, Bool, List, [], ◌∷◌, length, nat_eq, nat_lt, nat_le, ◌&&◌, Option, Some, None, if◌then◌else◌}

-- a label has 1 to 63 octets
abbrev pub is_label_size : ℕ → Bool
is_label_size n = nat_le 1 n && nat_le n 63

-- what is still owed of a label, and then labels: each is a length octet and so many octets
abbrev pub is_labels : ℕ → List ℕ → Bool
is_labels owed [] = nat_eq owed 0
is_labels zero (size ∷ octets) = is_label_size size && is_labels size octets
is_labels (suc owed) (octet ∷ octets) = is_labels owed octets

-- one or more labels, at most 100 octets in all
abbrev pub is_dnn : List ℕ → Bool
is_dnn octets = nat_lt 0 (length octets) && nat_le (length octets) 100 && is_labels 0 octets

abbrev pub dnn_in : List ℕ → Option (List ℕ)
dnn_in octets = if is_dnn octets then Some octets else None

-- a label of so many octets, with its length octet, fits into the room
abbrev pub fits_label : ℕ → ℕ → Bool
fits_label room size = is_label_size size && nat_lt size room

-- how many octets, from the first on, can start labels that fit into this room, behind what is still owed of a label
abbrev pub labels_front : ℕ → ℕ → List ℕ → ℕ
labels_front room owed [] = 0
labels_front room zero (size ∷ octets) =
    if fits_label room size then 1 + labels_front (room - 1) size octets else 0
labels_front room (suc owed) (octet ∷ octets) = 1 + labels_front (room - 1) owed octets

-- where octets that are no DNN stop being the front of one
abbrev pub dnn_fault : List ℕ → Option ℕ
dnn_fault octets = if is_dnn octets then None else Some (labels_front 100 0 octets)
