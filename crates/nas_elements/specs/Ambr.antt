-- The session AMBR (TS 24.501 clause 9.11.4.14).
use Rattle.std.specs.Prelude.{ℕ, List, ◌∷◌, ◌++◌, length, drop, slice_index, ◌==◌, Option, Some, None, if◌then◌else◌}
use Rattle.byteorder.specs.Endian.{big_bytes, big_number}
use Rattle.nas_elements.specs.declared.ambr.Ambr.{Ambr}

-- 6 octets: the unit of the downlink's bit rate, and a number of such units; the same of the uplink's
abbrev pub ambr_in : List ℕ → Option Ambr
ambr_in octets =
    if length octets == 6 then Some (record {
      down_unit = slice_index octets 0;
      down = big_number 2 (drop 1 octets);
      up_unit = slice_index octets 3;
      up = big_number 2 (drop 4 octets);
    }) else None

abbrev pub ambr_octets : Ambr → List ℕ
ambr_octets a = a.down_unit ∷ (big_bytes 2 a.down ++ (a.up_unit ∷ big_bytes 2 a.up))
