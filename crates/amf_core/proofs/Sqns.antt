-- Sequence numbers have 48 bits.
use Rattle.std.proofs.Common.{◌≡◌, ◌+◌, ℕ, Bool, true, false, nat_lt, List, Option, Some, None, Ok, Err, arith, refl}
use Rattle.std.proofs.lemmas.Bool.Decides.{nat_tests}
use Rattle.nas_base.specs.Branches.{chosen, per, when◌then◌else◌}
use Rattle.milenage.specs.Autn.{vector}
use Rattle.milenage.specs.Home.{HomeRecord, challenge_of, home_record, last_sqn}
use Rattle.milenage.specs.declared.home.HomeRefusal.TheVariants as refusals
use Rattle.amf_core.specs.Challenges.{VectorFits}

-- the answer of a record
of_record : (r : HomeRecord) (rand : List ℕ) (left : Bool) → nat_lt r.sqn last_sqn ≡ left
    → VectorFits (when left then Ok (vector r.k r.opc rand (r.sqn + 1) r.field) else Err (refusals.SqnSpent r.sqn))
unfolding chosen vector
of_record r rand true is_left = grind (arith, nat_tests, is_left)
of_record r rand false is_left = tt

of_option : (o : Option HomeRecord) (rand : List ℕ)
    → VectorFits (per o (Err refusals.Unknown) (λ (r : HomeRecord). when nat_lt r.sqn last_sqn then Ok (vector r.k r.opc rand (r.sqn + 1) r.field) else Err (refusals.SqnSpent r.sqn)))
unfolding per
of_option None rand = tt
of_option (Some r) rand = of_record r rand (nat_lt r.sqn last_sqn) refl

pub vector_fits : (supi rand : List ℕ) (home : List HomeRecord) → VectorFits (challenge_of supi rand home)
unfolding challenge_of
vector_fits supi rand home = of_option (home_record supi home) rand
