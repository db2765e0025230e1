-- What both ends know of each other by these definitions.
use Rattle.std.specs.Prelude.{◌≡◌, ℕ, List, nat_lt, Some, if◌then◌else◌}
use Rattle.milenage.specs.Autn.{vector}
use Rattle.milenage.specs.Checking.{auts, checked, is_for_5g, opened}
use Rattle.milenage.specs.declared.autn.AutnAnswer.{AutnAnswer}
use Rattle.milenage.specs.declared.autn.AutnAnswer.TheVariants.{Accepted, NotFiveG, SynchFailure}
use Rattle.milenage.specs.declared.vector.Vector.{Vector}

-- the answer that takes a vector, with its sequence number and its keys
abbrev pub taken : Vector → AutnAnswer
taken v = Accepted v.sqn v.res v.ck v.ik v.ak

-- Of a vector of the same K, OPc and RAND a handset never says that the MAC is wrong. It takes it exactly where the AMF field
-- is one for 5G and the sequence number is greater than its own.
abbrev pub VectorIsTaken : List ℕ → List ℕ → List ℕ → ℕ → List ℕ → ℕ → Type 0
VectorIsTaken k opc rand n field sqn_ms =
    checked k opc rand (vector k opc rand n field).autn sqn_ms
    ≡ (if is_for_5g field then (if nat_lt sqn_ms n then taken (vector k opc rand n field) else SynchFailure (auts k opc rand sqn_ms))
    else NotFiveG)

-- Whatever AUTN it answers, an AUTS tells the home network of the same K, OPc and RAND the handset's sequence number.
abbrev pub AutsOpens : List ℕ → List ℕ → List ℕ → List ℕ → ℕ → Type 0
AutsOpens k opc rand autn sqn_ms =
    (answer : List ℕ) → checked k opc rand autn sqn_ms ≡ SynchFailure answer → opened k opc rand answer ≡ Some sqn_ms
