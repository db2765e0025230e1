-- How long messages are (TS 24.501 clause 9.1.1).
use Rattle.std.specs.Prelude.{◌≤◌, List, [], ◌∷◌, length}
use Rattle.nas_security.specs.declared.sends.Send.{Send}

-- each of these messages has 4,096 octets at most
abbrev pub AreShort : List Send → Type 0
AreShort [] = Unit {0}
AreShort (send ∷ sends) = (length send.octets ≤ 4096) × AreShort sends
