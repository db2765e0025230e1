-- What a handset makes of RAND and AUTN (TS 33.102 clauses 6.3.3 and 6.3.5, TS 33.501 clause 6.1.3.2).
use Rattle.std.specs.Prelude.{ℕ, ◌<◌, ◌^◌, Bool, not, List, [], ◌∷◌, ◌++◌, slice_index, nat_lt, nat_le, Option, Some, None, if◌then◌else◌}
use Rattle.std.specs.Str.{bytes_eq}
use Rattle.milenage.specs.Octets.{◌⊕◌, part}
use Rattle.milenage.specs.Milenage.{f1, f1_star, f2, f3, f4, f5, f5_star}
use Rattle.milenage.specs.Autn.{sqn_number, sqn_octets}
use Rattle.milenage.specs.declared.autn.AutnAnswer.{AutnAnswer}
use Rattle.milenage.specs.declared.autn.AutnAnswer.TheVariants.{Accepted, MacFailure, NotFiveG, SynchFailure}

-- the AMF field that MAC-S is made with
abbrev pub zero_field : List ℕ
zero_field = 0 ∷ 0 ∷ []

-- AUTS: SQN_MS XOR AK of f5*, MAC-S
unfoldable pub auts : List ℕ → List ℕ → List ℕ → ℕ → List ℕ
auts k opc rand sqn_ms = (sqn_octets sqn_ms ⊕ f5_star k opc rand) ++ f1_star k opc rand (sqn_octets sqn_ms) zero_field

-- the parts of AUTN: SQN, which AK uncovers, the AMF field, and the MAC
abbrev pub sqn_in : List ℕ → List ℕ → List ℕ → List ℕ → List ℕ
sqn_in k opc rand autn = part 0 6 autn ⊕ f5 k opc rand

abbrev pub field_in : List ℕ → List ℕ
field_in autn = part 6 2 autn

abbrev pub mac_in : List ℕ → List ℕ
mac_in autn = part 8 8 autn

-- the first bit of an AMF field, which says that the vector is one for 5G
abbrev pub is_for_5g : List ℕ → Bool
is_for_5g field = nat_le 128 (slice_index field 0)

-- A sequence number is fresh where it is greater than the greatest that was accepted.
abbrev pub fresh_answer : List ℕ → List ℕ → List ℕ → ℕ → ℕ → AutnAnswer
fresh_answer k opc rand n sqn_ms =
    if nat_lt sqn_ms n then Accepted n (f2 k opc rand) (f3 k opc rand) (f4 k opc rand) (f5 k opc rand)
    else SynchFailure (auts k opc rand sqn_ms)

-- the MAC is checked first, then the AMF field, then the sequence number
unfoldable pub checked : List ℕ → List ℕ → List ℕ → List ℕ → ℕ → AutnAnswer
checked k opc rand autn sqn_ms =
    if not (bytes_eq (f1 k opc rand (sqn_in k opc rand autn) (field_in autn)) (mac_in autn)) then MacFailure
    else (if not (is_for_5g (field_in autn)) then NotFiveG
    else fresh_answer k opc rand (sqn_number (sqn_in k opc rand autn)) sqn_ms)

-- the sequence number that is accepted has 48 bits
abbrev pub SqnFits : AutnAnswer → Type 0
SqnFits (Accepted n res ck ik ak) = n < 2 ^ 48
SqnFits MacFailure = Unit {0}
SqnFits NotFiveG = Unit {0}
SqnFits (SynchFailure auts) = Unit {0}

-- what a home network makes of AUTS: SQN_MS, where MAC-S is the right one
unfoldable pub opened : List ℕ → List ℕ → List ℕ → List ℕ → Option ℕ
opened k opc rand auts =
    if bytes_eq (f1_star k opc rand (part 0 6 auts ⊕ f5_star k opc rand) zero_field) (part 6 8 auts)
    then Some (sqn_number (part 0 6 auts ⊕ f5_star k opc rand)) else None
