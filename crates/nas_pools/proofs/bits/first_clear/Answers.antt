-- A word that isn't full has the first bit that is 0, and behind a full one the walk goes on.
use Rattle.std.proofs.Common.{◌≡◌, ◌<◌, ◌-◌, ◌^◌, length, sym, subst, arith, ℕ, ◌*◌}
use Rattle.std.specs.Prelude.{slice_index}
use Rattle.nas_pools.proofs.BitLemmas.{AllMarked, all_marked_next, first_clear_at, no_clear}
use Rattle.nas_pools.proofs.bits.first_clear.Goals as goal

pub returns-then-word : goal.returns-then-word
returns-then-word c =
    let fits = c.type_inv.words c.loop-place.place in
    let not_full : slice_index c.args.words.now c.loop-place.place < 2 ^ 64 - 1 = omega (arith, fits) in
    rw c.trailing_ones.ensures (sym (first_clear_at c.args.words.now c.loop-place.place c.loop-place.invariant not_full (omega arith)))

pub loop-place-preserved : goal.loop-place-preserved
loop-place-preserved c = all_marked_next c.args.words.now c.loop-place.place c.loop-place.invariant (omega arith)

pub returns : goal.returns
returns c =
    let all : c.loop-place.place ≡ length c.args.words.now = omega arith in
    sym (no_clear c.args.words.now (subst (λ (n : ℕ). AllMarked c.args.words.now (64 * n)) all c.loop-place.invariant))
