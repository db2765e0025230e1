-- Whether a session is as it was.
use Rattle.std.specs.Prelude.{Bool, true, false, ◌==◌, ◌&&◌, List, [], ◌∷◌, if◌then◌else◌}
use Rattle.std.specs.Str.{bytes_eq}
use Rattle.nas_elements.specs.declared.ambr.Ambr.{Ambr}
use Rattle.nas_qos.specs.Filters.{PacketFilter}
use Rattle.nas_qos.specs.Parts.{parts_octets}
use Rattle.nas_qos.specs.Rules.{QosRule}
use Rattle.sm_messages.specs.Session.{SessionValues}

-- the same bit rates
abbrev pub is_same_ambr : Ambr → Ambr → Bool
is_same_ambr a b = a.down_unit == b.down_unit && a.down == b.down && a.up_unit == b.up_unit && a.up == b.up

-- the same filters in the same order; components are the same exactly where they are written the same
abbrev pub is_same_filter : PacketFilter → PacketFilter → Bool
is_same_filter f g =
    f.id == g.id && f.direction == g.direction && bytes_eq (parts_octets f.parts) (parts_octets g.parts)

abbrev pub are_same_filters : List PacketFilter → List PacketFilter → Bool
are_same_filters [] [] = true
are_same_filters [] (g ∷ gs) = false
are_same_filters (f ∷ fs) [] = false
are_same_filters (f ∷ fs) (g ∷ gs) = is_same_filter f g && are_same_filters fs gs

-- the same rules
abbrev pub is_same_bit : Bool → Bool → Bool
is_same_bit one other = if one then other else (if other then false else true)

abbrev pub is_same_rule : QosRule → QosRule → Bool
is_same_rule r s =
    r.id == s.id && is_same_bit r.default s.default && are_same_filters r.filters s.filters && r.precedence == s.precedence && r.qfi == s.qfi

abbrev pub are_same_rules : List QosRule → List QosRule → Bool
are_same_rules [] [] = true
are_same_rules [] (s ∷ ss) = false
are_same_rules (r ∷ rs) [] = false
are_same_rules (r ∷ rs) (s ∷ ss) = is_same_rule r s && are_same_rules rs ss

-- A modification changes the rules and the session AMBR alone; these leave the session as it is.
unfoldable pub is_unchanged : SessionValues → List QosRule → Ambr → Bool
is_unchanged session rules ambr = are_same_rules rules session.rules && is_same_ambr ambr session.ambr
