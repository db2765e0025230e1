-- The additional 5G security information (TS 24.501 clause 9.11.3.12).
use Rattle.std.specs.Prelude.{ℕ, ◌/◌, ◌%◌, ◌==◌, Bool, List, [], ◌∷◌, Option, Some, None}
use Rattle.nas_elements.specs.declared.asi.Asi.{Asi}

-- one octet, kept whole
abbrev pub asi_in : List ℕ → Option Asi
asi_in (octet ∷ []) = Some (record { 0 = octet })
asi_in octets = None

abbrev pub asi_octets : Asi → List ℕ
asi_octets a = a.0 ∷ []

-- bit 2: retransmission of the initial NAS message is requested
abbrev pub is_whole_message_wanted : Asi → Bool
is_whole_message_wanted a = a.0 / 2 % 2 == 1
