-- Lists of records that are gone through one by one.
use Rattle.std.proofs.Common.{◌≡◌, ◌<◌, ◌+◌, ◌-◌, ℕ, suc, Bool, List, [], ◌∷◌, ◌++◌, length, take, drop, arith, ap}
use Rattle.std.proofs.Math.ListN.{set}
use Rattle.std.proofs.lemmas.Grind.{common_steps}
use Rattle.amf_core.specs.Keyed.{all_current, current}
use Rattle.amf_core.specs.State.{numbered_from, unused}
use Rattle.amf_core.specs.declared.link.Link.{Link}

-- one more record is as it is by now
pub taken_step : {A : Type 0} (same : A → A → Bool) (changed records goal : List A) (i : ℕ) (x : A) → i < length records
    → drop i records ≡ x ∷ drop (i + 1) records
    → take i records ++ all_current same changed (drop i records) ≡ goal
    → take (i + 1) (set records i (current same changed x)) ++ all_current same changed (drop (i + 1) (set records i (current same changed x)))
    ≡ goal
taken_step same changed records goal i x more next told =
    let one : all_current same changed (drop i records) ≡ current same changed x ∷ all_current same changed (drop (i + 1) records) =
    ap (all_current same changed) next in
    grind (arith, common_steps, one, told)

-- one more link is numbered
numbered_step : (n : ℕ) → n < 65 → numbered_from (65 - n) n ≡ unused n ∷ numbered_from (65 - (n + 1)) (n + 1)
numbered_step n more =
    let e : 65 - n ≡ suc (65 - (n + 1)) = omega arith in
    ap (λ m. numbered_from m n) e

pub numbered_more : (records goal : List Link) (n : ℕ) → n < 65 → records ++ numbered_from (65 - n) n ≡ goal
    → (records ++ unused n ∷ []) ++ numbered_from (65 - (n + 1)) (n + 1) ≡ goal
numbered_more records goal n more told = grind (arith, common_steps, numbered_step n more, told)
