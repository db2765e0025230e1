use Rattle.std.proofs.Common.{◌≤◌, ◌∙◌, sym, arith}
use Rattle.smf_core.proofs.Each.{over_at}
use Rattle.smf_core.specs.Asks.{all_released}
use Rattle.smf_core.specs.Release.{removed}
use Rattle.smf_core.proofs.draft.Work.all_released.Goals as goal

pub returns : goal.returns
unfolding all_released
returns c =
    let low : 16 ≤ c.loop-n.n = omega (arith, c.loop-n-test.false) in
    let high : c.loop-n.n ≤ 16 = omega (arith, c.loop-n.auto.n-end (omega arith)) in
    sym (over_at c.loop-n.n removed c.loop-n.self low high) ∙ c.loop-n.invariant
