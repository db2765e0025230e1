-- The SUCI of an IMSI under the null scheme, which sends the MSIN as it is (TS 23.003 clause 2.2B, TS 24.501 figure
-- 9.11.3.4.3).
use Rattle.std.specs.Prelude.{ℕ, Bool, List, [], ◌∷◌, ◌++◌, length, take, drop, slice_index, nat_le, ◌==◌, ◌&&◌, Option, Some, None, if◌then◌else◌}
use Rattle.nas_base.specs.Digits.{are_digits, digits_between}
use Rattle.nas_base.specs.Plmn.{PlmnIdentity}
use Rattle.nas_elements.specs.Packed.{◌>>=◌, halves_of, packed, plmn_in, plmn_octets, unfilled}

-- the network, the routing indicator and the MSIN of a SUCI
pub record SuciParts : Type 0 where
  pub plmn : PlmnIdentity
  pub routing : List ℕ
  pub msin : List ℕ

-- 1 to 4 digits of a routing indicator, and 1 to 10 of an MSIN
abbrev pub is_suci : List ℕ → List ℕ → Bool
is_suci routing msin = are_digits 1 4 routing && are_digits 1 10 msin

-- the routing indicator lies in two octets, with fillers behind its digits
abbrev pub routing_octets : List ℕ → List ℕ
routing_octets routing = take 2 (packed routing ++ 0xff ∷ [])

-- SUPI format IMSI and type of identity SUCI, the network, the routing indicator, scheme 0, key identifier 0, the MSIN
abbrev pub suci_octets : SuciParts → List ℕ
suci_octets s = (0x01 ∷ plmn_octets s.plmn) ++ (routing_octets s.routing ++ (0x00 ∷ 0x00 ∷ packed s.msin))

-- up to three fillers stand behind the digits of a routing indicator, and at most one behind those of an MSIN
abbrev pub routing_in : List ℕ → Option (List ℕ)
routing_in octets = digits_between 1 4 (unfilled (unfilled (unfilled (halves_of octets))))

abbrev pub msin_in : List ℕ → Option (List ℕ)
msin_in octets = digits_between 1 10 (unfilled (halves_of octets))

-- each part from its octets
abbrev pub parts : List ℕ → Option SuciParts
parts octets = do
  plmn ← plmn_in (slice_index octets 1) (slice_index octets 2) (slice_index octets 3)
  routing ← routing_in (take 2 (drop 4 octets))
  msin ← msin_in (drop 8 octets)
  Some (record { plmn = plmn; routing = routing; msin = msin })

-- the first octet of an IMSI's SUCI, the null scheme, and key identifier 0
abbrev pub is_null_scheme : List ℕ → Bool
is_null_scheme octets =
    nat_le 8 (length octets) && slice_index octets 0 == 0x01 && slice_index octets 6 == 0 && slice_index octets 7 == 0

-- the SUCI in the octets, if there is one
abbrev pub suci_in : List ℕ → Option SuciParts
suci_in octets = if is_null_scheme octets then parts octets else None
