-- Lists of names of data networks (TS 23.003 clause 9.1).
use Rattle.std.specs.Prelude.{ℕ, Bool, List, length, nat_le, ◌&&◌, Option, Some, None, if◌then◌else◌}
use Rattle.std.specs.Str.{bytes_eq}

-- 1 to 8 names of data networks
abbrev pub has_dnns_size : List (List ℕ) → Bool
has_dnns_size dnns = nat_le 1 (length dnns) && nat_le (length dnns) 8

abbrev pub dnns_from : List (List ℕ) → Option (List (List ℕ))
dnns_from dnns = if has_dnns_size dnns then Some dnns else None

abbrev pub is_same_dnn : List ℕ → List ℕ → Bool
is_same_dnn dnn name = bytes_eq name dnn
