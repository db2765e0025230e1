-- Values whose octets are told one by one: a line for each octet says what may stand there.
use Rattle.std.specs.Prelude.{ℕ, Bool, true, suc, ◌%◌, ◌/◌, List, [], ◌∷◌, nat_lt, ◌==◌, ◌&&◌, ◌||◌, if◌then◌else◌}
use Rattle.nas_elements.specs.Packed.{filler}
use Rattle.nas_elements.specs.declared.layout.Line.{Line}
use Rattle.nas_elements.specs.declared.layout.Line.TheVariants.{Any, Is, TypeOfIdentity, TwoDigits, DigitAndPerhapsAnother, RoutingEnd, MoreDigits}

-- a digit, and a digit or a filler
abbrev pub digit : ℕ → Bool
digit half = nat_lt half 10

abbrev pub digit_or_filler : ℕ → Bool
digit_or_filler half = digit half || half == filler

abbrev pub one_or_two_digits : ℕ → Bool
one_or_two_digits octet = digit (octet % 16) && digit_or_filler (octet / 16)

-- what may stand in an octet, behind the octet before it
abbrev pub meets : Line → ℕ → ℕ → Bool
meets Any before octet = true
meets (Is wanted) before octet = octet == wanted
meets (TypeOfIdentity wanted) before octet = octet % 8 == wanted
meets TwoDigits before octet = digit (octet % 16) && digit (octet / 16)
meets DigitAndPerhapsAnother before octet = one_or_two_digits octet
meets RoutingEnd before octet = octet == 0xff || (digit (before / 16) && one_or_two_digits octet)
meets MoreDigits before octet = digit (before / 16) && one_or_two_digits octet

-- how many octets meet their lines, up to the first that doesn't
abbrev pub met : ℕ → List Line → List ℕ → ℕ
met before [] octets = 0
met before (line ∷ lines) [] = 0
met before (line ∷ lines) (octet ∷ octets) = if meets line before octet then suc (met octet lines octets) else 0

-- a SUCI of an IMSI under the null scheme: the first octet, PLMN, routing indicator, scheme, key identifier, MSIN
abbrev pub suci_layout : List Line
suci_layout =
    Is 0x01 ∷ TwoDigits ∷ DigitAndPerhapsAnother ∷ TwoDigits ∷ DigitAndPerhapsAnother ∷ RoutingEnd ∷ Is 0 ∷ Is 0
    ∷ DigitAndPerhapsAnother ∷ MoreDigits ∷ MoreDigits ∷ MoreDigits ∷ MoreDigits ∷ []

-- a 5G-GUTI: the first octet, PLMN, then 7 octets of numbers; a 5G-S-TMSI: the first octet, then 6 of numbers
abbrev pub guti_layout : List Line
guti_layout =
    TypeOfIdentity 2 ∷ TwoDigits ∷ DigitAndPerhapsAnother ∷ TwoDigits ∷ Any ∷ Any ∷ Any ∷ Any ∷ Any ∷ Any ∷ Any ∷ []

abbrev pub stmsi_layout : List Line
stmsi_layout = TypeOfIdentity 4 ∷ Any ∷ Any ∷ Any ∷ Any ∷ Any ∷ Any ∷ []
