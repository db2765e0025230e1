-- The 5G-GUTI and the 5G-S-TMSI (TS 23.003 clauses 2.10.1 and 2.11, TS 24.501 figures 9.11.3.4.1 and 9.11.3.4.5).
use Rattle.std.specs.Prelude.{ℕ, ◌%◌, List, ◌∷◌, ◌++◌, length, drop, slice_index, ◌==◌, ◌&&◌, Option, Some, None, if◌then◌else◌}
use Rattle.byteorder.specs.Endian.{big_bytes, big_number}
use Rattle.nas_elements.specs.Packed.{◌>>=◌, plmn_in, plmn_octets}
use Rattle.nas_elements.specs.declared.guti.Guti.{Guti}
use Rattle.nas_elements.specs.declared.guti.Stmsi.{Stmsi}

-- type of identity 2 under a high half F; the network; region; set and pointer; 5G-TMSI
abbrev pub guti_octets : Guti → List ℕ
guti_octets g = (0xf2 ∷ plmn_octets g.plmn) ++ (g.region ∷ (big_bytes 2 g.set_pointer ++ big_bytes 4 g.tmsi))

-- bits 1 to 3 of the first octet tell the type of identity
abbrev pub type_of_identity : List ℕ → ℕ
type_of_identity octets = slice_index octets 0 % 8

-- 11 octets, of which the first tells the type
abbrev pub guti_in : List ℕ → Option Guti
guti_in octets =
    if length octets == 11 && type_of_identity octets == 2 then (do
      plmn ← plmn_in (slice_index octets 1) (slice_index octets 2) (slice_index octets 3)
      Some (record {
        plmn = plmn;
        region = slice_index octets 4;
        set_pointer = big_number 2 (drop 5 octets);
        tmsi = big_number 4 (drop 7 octets);
      }))
    else None

-- type of identity 4 under a high half F; set and pointer; 5G-TMSI
abbrev pub stmsi_octets : Stmsi → List ℕ
stmsi_octets s = 0xf4 ∷ (big_bytes 2 s.set_pointer ++ big_bytes 4 s.tmsi)

-- 7 octets
abbrev pub stmsi_in : List ℕ → Option Stmsi
stmsi_in octets =
    if length octets == 7 && type_of_identity octets == 4
    then Some (record { set_pointer = big_number 2 (drop 1 octets); tmsi = big_number 4 (drop 3 octets) }) else None

-- what is left of a 5G-GUTI within its region
abbrev pub stmsi_of : Guti → Stmsi
stmsi_of g = record { set_pointer = g.set_pointer; tmsi = g.tmsi }
