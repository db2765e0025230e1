-- Which addresses a data network has: IPv4 alone (1), IPv6 alone (2), or both (3).
use Rattle.std.specs.Prelude.{ℕ, Bool, true, false, not, List, [], ◌∷◌, length, nat_le, ◌&&◌, ◌||◌, Option, Some, None, if◌then◌else◌}
use Rattle.std.specs.Str.{bytes_eq}

-- a data network by its name, and its kinds
pub record DnnKindParts : Type 0 where
  pub dnn : List ℕ
  pub kinds : ℕ

abbrev pub is_kind : ℕ → Bool
is_kind n = nat_le 1 n && nat_le n 3

-- a data network of these
abbrev pub is_listed : List ℕ → List DnnKindParts → Bool
is_listed dnn [] = false
is_listed dnn (k ∷ ks) = bytes_eq k.dnn dnn || is_listed dnn ks

-- no name stands twice
abbrev pub are_distinct : List DnnKindParts → Bool
are_distinct [] = true
are_distinct (k ∷ ks) = not (is_listed k.dnn ks) && are_distinct ks

-- up to 64, no two of one name
abbrev pub are_kinds : List DnnKindParts → Bool
are_kinds ks = nat_le (length ks) 64 && are_distinct ks

abbrev pub kinds_from : List DnnKindParts → Option (List DnnKindParts)
kinds_from ks = if are_kinds ks then Some ks else None

-- of a data network that isn't listed: both where there are identifiers of IPv6, else IPv4
abbrev pub kinds_unlisted : Bool → ℕ
kinds_unlisted has_v6 = if has_v6 then 3 else 1

-- the kinds of a data network
abbrev pub kinds_of : List ℕ → Bool → List DnnKindParts → ℕ
kinds_of dnn has_v6 [] = kinds_unlisted has_v6
kinds_of dnn has_v6 (k ∷ ks) = if bytes_eq k.dnn dnn then k.kinds else kinds_of dnn has_v6 ks
