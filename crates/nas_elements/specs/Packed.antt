-- Decimal digits in octets, two in each, the first in the low half (binary coded decimal).
use Rattle.std.specs.Prelude.{ℕ, ◌+◌, ◌-◌, ◌*◌, ◌/◌, ◌%◌, List, [], ◌∷◌, length, take, slice_index, ◌==◌, Option, Some, None, if◌then◌else◌}
use Rattle.nas_base.specs.Plmn.{PlmnIdentity, plmn_from}

-- what stands in a half where no digit does
abbrev pub filler : ℕ
filler = 15

-- an octet of two halves
abbrev pub two_halves : ℕ → ℕ → ℕ
two_halves low high = low + 16 * high

-- digits in as many octets as they need; the last half may be left over
abbrev pub packed : List ℕ → List ℕ
packed [] = []
packed (a ∷ []) = two_halves a filler ∷ []
packed (a ∷ b ∷ rest) = two_halves a b ∷ packed rest

-- the halves of octets
abbrev pub halves_of : List ℕ → List ℕ
halves_of [] = []
halves_of (o ∷ os) = o % 16 ∷ (o / 16 ∷ halves_of os)

-- without a filler at the end
abbrev pub unfilled : List ℕ → List ℕ
unfilled hs = if slice_index hs (length hs - 1) == filler then take (length hs - 1) hs else hs

-- A network in three octets: the second has the third digit of the country in its low half, and in its high half the
-- third digit of the network, or the filler (TS 24.501 figure 9.11.3.4.3).
abbrev pub third_digit : List ℕ → ℕ
third_digit mnc = if length mnc == 3 then slice_index mnc 2 else filler

abbrev pub plmn_octets : PlmnIdentity → List ℕ
plmn_octets p =
    two_halves (slice_index p.mcc 0) (slice_index p.mcc 1) ∷ two_halves (slice_index p.mcc 2) (third_digit p.mnc)
    ∷ two_halves (slice_index p.mnc 0) (slice_index p.mnc 1) ∷ []

-- the network in three octets, if they hold one
abbrev pub plmn_in : ℕ → ℕ → ℕ → Option PlmnIdentity
plmn_in a b c =
    plmn_from (a % 16 ∷ a / 16 ∷ b % 16 ∷ [])
    (if b / 16 == filler then c % 16 ∷ c / 16 ∷ [] else c % 16 ∷ c / 16 ∷ b / 16 ∷ [])

-- a value that rests on others, where these are there
infixl 10 ◌>>=◌
abbrev pub ◌>>=◌ : {A B : Type 0} → Option A → (A → Option B) → Option B
(Some x) >>= f = f x
None >>= f = None
