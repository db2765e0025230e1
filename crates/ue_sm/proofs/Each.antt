-- What is done for each of the first identities, one after the other.
use Rattle.std.proofs.Common.{◌≡◌, ◌<◌, ◌-◌, ℕ, zero, suc, refl, ap, arith}
use Rattle.ue_sm.specs.State.{each}

pub each_none : {A : Type 0} (row : ℕ → A → A) (a : A) → each row 0 a ≡ a
unfolding each
each_none row a = refl

pub each_more : {A : Type 0} (row : ℕ → A → A) (a : A) (n : ℕ) → 0 < n → row n (each row (n - 1) a) ≡ each row n a
unfolding each
each_more row a zero some = absurd (omega arith)
each_more row a (suc n) some = let e : suc n - 1 ≡ n = omega arith in ap (λ m. row (suc n) (each row m a)) e
