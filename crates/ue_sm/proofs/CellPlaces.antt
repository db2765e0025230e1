-- Sessions that are put in the place of others.
use Rattle.std.proofs.Common.{◌≡◌, ◌<◌, ◌+◌, ◌-◌, ◌++◌, ℕ, List, [], ◌∷◌, ap, arith, refl, zero, suc}
use Rattle.std.proofs.lemmas.Grind.{common_steps}
use Rattle.std.proofs.Math.ListN.{set}
use Rattle.ue_sm.specs.State.{SmState, inactive, put_cell}
use Rattle.ue_sm.specs.declared.cells.Cell.{Cell}
use Rattle.ue_sm.specs.declared.cells.Cell.TheVariants.{Inactive}

set_set : {A : Type 0} (xs : List A) (i : ℕ) (a b : A) → set (set xs i a) i b ≡ set xs i b
set_set [] i a b = refl
set_set (x ∷ xs) zero a b = refl
set_set (x ∷ xs) (suc i) a b = ap (λ ys. x ∷ ys) (set_set xs i a b)

pub put_put : (psi : ℕ) (a b : Cell) (s : SmState) → put_cell psi b (put_cell psi a s) ≡ put_cell psi b s
put_put psi a b s = ap (λ cells. record s { cells = cells }) (set_set s.cells (psi - 1) a b)

-- one more inactive session
inactive_step : (n : ℕ) → n < 15 → inactive (15 - n) ≡ Inactive ∷ inactive (15 - (n + 1))
inactive_step n more = let e : 15 - n ≡ suc (15 - (n + 1)) = omega arith in ap inactive e

pub inactive_more : (cells goal : List Cell) (n : ℕ) → n < 15 → cells ++ inactive (15 - n) ≡ goal
    → (cells ++ Inactive ∷ []) ++ inactive (15 - (n + 1)) ≡ goal
inactive_more cells goal n more told = grind (arith, common_steps, inactive_step n more, told)
