-- The tracking area identity list (TS 24.501 clause 9.11.3.9).
use Rattle.std.specs.Prelude.{ℕ, List, ◌∷◌, ◌++◌, length, nat_le, ◌&&◌, Option, Some, None, if◌then◌else◌}
use Rattle.nas_base.specs.Plmn.{PlmnIdentity}
use Rattle.nas_elements.specs.Packed.{plmn_octets}

-- 7 to 112 octets
abbrev pub tai_list_in : List ℕ → Option (List ℕ)
tai_list_in octets = if nat_le 7 (length octets) && nat_le (length octets) 112 then Some octets else None

-- a list of one area: its type and number of areas (both 0), PLMN, TAC
abbrev pub one_area : PlmnIdentity → List ℕ → List ℕ
one_area plmn tac = (0x00 ∷ plmn_octets plmn) ++ tac
