-- Rows for one identity after the other.
use Rattle.std.proofs.Common.{◌≡◌, ◌<◌, ◌≤◌, ◌-◌, ◌+◌, ℕ, suc, ap, refl, sym, ◌∙◌, arith}
use Rattle.smf_core.specs.Asks.{each_from}
use Rattle.smf_core.specs.Drafts.{Drafted, by}
use Rattle.smf_core.specs.Work.{Working}

-- the row of one more identity
each_suc : (k n : ℕ) (row : ℕ → Working → Working) (w : Working)
    → each_from (suc k) n row w ≡ each_from k (n + 1) row (row n w)
unfolding each_from
each_suc k n row w = refl

pub each_more : (n : ℕ) (row : ℕ → Working → Working) (d : Drafted) → n < 16
    → by (each_from (16 - (n + 1)) (n + 1) row) (by (row n) d) ≡ by (each_from (16 - n) n row) d
each_more n row d more =
    let left : 16 - n ≡ suc (16 - (n + 1)) = omega arith in
    rw left (ap (λ (w : Working). record d { work = w }) (sym (each_suc (16 - (n + 1)) n row d.work)))

-- none is left
pub each_over : (row : ℕ → Working → Working) (d : Drafted) → by (each_from (16 - 16) 16 row) d ≡ d
unfolding each_from
each_over row d = refl

pub over_at : (n : ℕ) (row : ℕ → Working → Working) (d : Drafted) → 16 ≤ n → n ≤ 16
    → by (each_from (16 - n) n row) d ≡ d
over_at n row d low high =
    let e : n ≡ 16 = omega arith in
    ap (λ m. by (each_from (16 - m) m row) d) e ∙ each_over row d
