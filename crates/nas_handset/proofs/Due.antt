-- The list of timers that are due, as it is found one by one.
use Rattle.std.proofs.Common.{◌≡◌, ℕ, zero, suc, ◌+◌, ◌-◌, ◌<◌, List, [], ◌∷◌, ◌++◌, Some, None, refl, arith}
use Rattle.std.proofs.lemmas.Grind.{common_steps}
use Rattle.nas_base.specs.Branches.{per}
use Rattle.nas_timers.specs.declared.timer_id.TheConstants.{NAMES}
use Rattle.nas_timers.specs.Timers.{Running, due_of, stopped}
use Rattle.nas_timers.specs.declared.timer_id.TimerId.{TimerId}
use Rattle.nas_handset.specs.Ticks.{due_within}

none_within : (n now : ℕ) (ts : List Running) → due_of now ts ≡ None → due_within n now ts ≡ []
unfolding per due_within
none_within zero now ts none = refl
none_within (suc n) now ts none = rw none refl

some_within : (n now : ℕ) (ts : List Running) (id : TimerId) → due_of now ts ≡ Some id →
    due_within (suc n) now ts ≡ id ∷ due_within n now (stopped id ts)
unfolding per due_within
some_within n now ts id some = rw some refl

-- where the found ones are put before the others, one more is found
pub due_found : (c now : ℕ) (ts : List Running) (id : TimerId) (list whole : List TimerId) → c < NAMES → due_of now ts ≡ Some id →
    list ++ due_within (NAMES - c) now ts ≡ whole → (list ++ id ∷ []) ++ due_within (NAMES - (c + 1)) now (stopped id ts) ≡ whole
due_found c now ts id list whole within some all =
    let one : NAMES - c ≡ suc (NAMES - (c + 1)) = omega arith in
    let next : due_within (NAMES - c) now ts ≡ id ∷ due_within (NAMES - (c + 1)) now (stopped id ts) = rw one (some_within (NAMES - (c + 1)) now ts id some) in
    grind (arith, common_steps)

pub due_ended : (n now : ℕ) (ts : List Running) (list whole : List TimerId) → due_of now ts ≡ None →
    list ++ due_within n now ts ≡ whole → list ≡ whole
due_ended n now ts list whole none all = let nothing : due_within n now ts ≡ [] = none_within n now ts none in grind (arith, common_steps)

pub due_all : (n now : ℕ) (ts : List Running) (list whole : List TimerId) → n ≡ 0 → list ++ due_within n now ts ≡ whole → list ≡ whole
unfolding due_within
due_all zero now ts list whole none all = grind (arith, common_steps)
due_all (suc n) now ts list whole none all = absurd (omega arith)
