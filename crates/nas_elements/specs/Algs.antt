-- The NAS security algorithms (TS 24.501 clause 9.11.3.34).
use Rattle.std.specs.Prelude.{ℕ, ◌+◌, ◌*◌, ◌/◌, ◌%◌, List, [], ◌∷◌, Option, Some, None}

-- the numbers of the algorithms of ciphering and of integrity
pub record Algorithms : Type 0 where
  pub nea : ℕ
  pub nia : ℕ

-- one octet: the ciphering algorithm in the high half, integrity in bits 1 to 4
abbrev pub algs_in : List ℕ → Option Algorithms
algs_in (octet ∷ []) = Some (record { nea = octet / 16; nia = octet % 16 })
algs_in octets = None

abbrev pub algs_octets : Algorithms → List ℕ
algs_octets a = (16 * a.nea + a.nia) ∷ []
