-- The places of a shape's rows keep the first element of each.
use Rattle.std.proofs.Common.{◌≡◌, ◌∙◌, ℕ, zero, suc, ◌+◌, ◌-◌, ◌<◌, ◌==◌, Bool, true, false, List, [], ◌∷◌, length, Option, Some, None, map, arith, refl, ap, sym}
use Rattle.std.proofs.lemmas.Bool.Decides.{nat_tests}
use Rattle.std.proofs.lemmas.Grind.{common_steps}
use Rattle.std.proofs.lemmas.List.{length-map}
use Rattle.std.specs.List.{refill}
use Rattle.nas_base.specs.Slots.{SlotParts, all_noted, noted, taken, vacant}
use Rattle.nas_base.specs.Walking.{RowParts, Element, Head, elements_within, firsts, head_of, headed, kept, value_of}

-- one place, after all elements
abbrev pub noted_in : SlotParts → List Element → SlotParts
noted_in s [] = s
noted_in s (e ∷ es) = noted_in (noted e.iei e.value s) es

noted_apart : (s : SlotParts) (ss : List SlotParts) (es : List Element) → all_noted (s ∷ ss) es ≡ noted_in s es ∷ all_noted ss es
noted_apart s ss [] = refl
noted_apart s ss (e ∷ es) = noted_apart (noted e.iei e.value s) (map (noted e.iei e.value) ss) es

noted_none : (es : List Element) → all_noted [] es ≡ []
noted_none [] = refl
noted_none (e ∷ es) = noted_none es

-- a place that is taken stays as it is
noted_full : (iei : ℕ) (value : List ℕ) (es : List Element) → noted_in (record { iei = iei; value = Some value }) es ≡ record { iei = iei; value = Some value }
noted_full iei value [] = refl
noted_full iei value (e ∷ es) = grind (arith, nat_tests, noted_full iei value es)

noted_first_by : (iei : ℕ) (e : Element) (es : List Element) (b : Bool) → (iei == e.iei) ≡ b →
    noted_in (record { iei = iei; value = None }) es ≡ record { iei = iei; value = value_of iei es } →
    noted_in (record { iei = iei; value = None }) (e ∷ es) ≡ record { iei = iei; value = value_of iei (e ∷ es) }
noted_first_by iei e es true is later = rw is (noted_full iei e.value es)
noted_first_by iei e es false is later = rw is later

-- a vacant place takes the first element of its identifier
noted_first : (iei : ℕ) (es : List Element) → noted_in (record { iei = iei; value = None }) es ≡ record { iei = iei; value = value_of iei es }
noted_first iei [] = refl
noted_first iei (e ∷ es) = noted_first_by iei e es (iei == e.iei) refl (noted_first iei es)

pub taken_noted : (shape : List RowParts) (es : List Element) → taken (all_noted (vacant shape) es) ≡ firsts shape es
taken_noted [] es = ap taken (noted_none es)
taken_noted (row ∷ rows) es =
    ap taken (noted_apart (record { iei = row.iei; value = None }) (vacant rows) es)
    ∙ ap (λ (s : SlotParts). kept s.iei s.value (taken (all_noted (vacant rows) es))) (noted_first row.iei es)
    ∙ ap (kept row.iei (value_of row.iei es)) (taken_noted rows es)

-- one element more
pub within_more : (n : ℕ) (shape : List RowParts) (octets : List ℕ) → 0 < n → elements_within n shape octets ≡ headed (elements_within (n - 1) shape) (head_of shape octets)
within_more zero shape octets h = absurd (omega arith)
within_more (suc n) shape octets h = let e : suc n - 1 ≡ n = omega arith in rw e refl

refilled : (slots new : List SlotParts) → length new ≡ length slots → refill (length slots) slots new ≡ new
refilled slots new h = grind (arith, common_steps)

-- a step of the walk
pub all_noted_more : (n counter : ℕ) (shape : List RowParts) (rest : List ℕ) (slots new : List SlotParts) (h : Head) → counter < n → Some h ≡ head_of shape rest
    → new ≡ map (noted h.iei h.value) slots
    → all_noted (refill (length slots) slots new) (elements_within (n - (counter + 1)) shape h.behind) ≡ all_noted slots (elements_within (n - counter) shape rest)
all_noted_more n counter shape rest slots new h below is e =
    let fuel : n - (counter + 1) ≡ n - counter - 1 = omega arith in
    let some : 0 < n - counter = omega arith in
    let size : length new ≡ length slots = ap length e ∙ simp length-map in
    ap (λ (ss : List SlotParts). all_noted ss (elements_within (n - (counter + 1)) shape h.behind)) (refilled slots new size ∙ e)
    ∙ ap (λ (k : ℕ). all_noted (map (noted h.iei h.value) slots) (elements_within k shape h.behind)) fuel
    ∙ ap (λ (o : Option Head). all_noted slots (headed (elements_within (n - counter - 1) shape) o)) is
    ∙ ap (all_noted slots) (sym (within_more (n - counter) shape rest some))
