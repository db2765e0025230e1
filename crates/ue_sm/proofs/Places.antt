-- Where a session stands among the others.
use Rattle.std.proofs.Common.{◌≡◌, ◌⊎◌, ◌-◌, inl, inr, ap, refl, ℕ, zero, suc, List, [], ◌∷◌, get_or}
use Rattle.std.proofs.Math.ListN.{set}
use Rattle.ue_sm.specs.State.{SmState, cell_of, put_cell}
use Rattle.ue_sm.specs.declared.cells.Cell.{Cell}
use Rattle.ue_sm.specs.declared.cells.Cell.TheVariants.{Inactive}

-- what stands at one place after another was written: what was written there, where it is the same, and else what was
got_set : {A : Type 0} (xs : List A) (i j : ℕ) (a d : A)
    → ((get_or xs j d ≡ get_or xs i d) × (get_or (set xs i a) j d ≡ a)) ⊎ (get_or (set xs i a) j d ≡ get_or xs j d)
got_set [] i j a d = inr refl
got_set (x ∷ xs) zero zero a d = inl (refl, refl)
got_set (x ∷ xs) zero (suc j) a d = inr refl
got_set (x ∷ xs) (suc i) zero a d = inr refl
got_set (x ∷ xs) (suc i) (suc j) a d = got_set xs i j a d

pub placed : (psi other : ℕ) (c : Cell) (s : SmState)
    → ((cell_of other s ≡ cell_of psi s) × (cell_of other (put_cell psi c s) ≡ c))
    ⊎ (cell_of other (put_cell psi c s) ≡ cell_of other s)
placed psi other c s = got_set s.cells (psi - 1) (other - 1) c Inactive

got_other : {A : Type 0} (xs : List A) (i j : ℕ) (a d : A) → ¬ (j ≡ i) → get_or (set xs i a) j d ≡ get_or xs j d
got_other [] i j a d differs = refl
got_other (x ∷ xs) zero zero a d differs = absurd (differs refl)
got_other (x ∷ xs) zero (suc j) a d differs = refl
got_other (x ∷ xs) (suc i) zero a d differs = refl
got_other (x ∷ xs) (suc i) (suc j) a d differs = got_other xs i j a d (λ e. differs (ap suc e))

pub placed_other : (psi other : ℕ) (c : Cell) (s : SmState) → ¬ (other - 1 ≡ psi - 1)
    → cell_of other (put_cell psi c s) ≡ cell_of other s
placed_other psi other c s differs = got_other s.cells (psi - 1) (other - 1) c Inactive differs
