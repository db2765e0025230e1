-- Octets are written one after the other, up to a room.
use Rattle.std.specs.Prelude.{◌≡◌, ◌<◌, ◌≤◌, ◌+◌, ◌-◌, ℕ, List, ◌∷◌, ◌++◌, length, Result, Ok, Err}
use Rattle.byteorder.specs.Endian.{big_bytes}
use Rattle.nas_base.specs.declared.writer.Full.{Full}

-- a text is written behind what stands there, or refused whole, exactly where it doesn't fit into 4,096 octets
abbrev pub Writes : {T : Type 0} → List ℕ → List ℕ → List ℕ → Result T Full → Type 0
Writes text old new (Ok _) = (length old + length text ≤ 4096) × (new ≡ old ++ text)
Writes text old new (Err e) = (4096 < length old + length text) × (e ≡ record { need = length text; room = 4096 - length old }) × (new ≡ old)

-- a value behind its length: in one octet (LV), or in two (LV-E) (TS 24.007 clause 11.2.1.1)
abbrev pub lv : List ℕ → List ℕ
lv octets = length octets ∷ octets

abbrev pub lve : List ℕ → List ℕ
lve octets = big_bytes 2 (length octets) ++ octets

-- an element: its identifier, then the value behind its length (TLV, TS 24.007 clause 11.2.1.1)
abbrev pub tlv : ℕ → List ℕ → List ℕ
tlv iei octets = iei ∷ lv octets

-- so many octets fit behind what stands there, or are refused
abbrev pub Fits : {T : Type 0} → ℕ → List ℕ → Result T Full → Type 0
Fits need written (Ok _) = length written + need ≤ 4096
Fits need written (Err e) = (4096 < length written + need) × (e ≡ record { need = need; room = 4096 - length written })
