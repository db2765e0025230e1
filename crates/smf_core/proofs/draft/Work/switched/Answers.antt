use Rattle.std.proofs.Common.{◌≤◌, ◌∙◌, sym, arith}
use Rattle.smf_core.proofs.Each.{over_at}
use Rattle.smf_core.specs.Asks.{switched, switched_at}
use Rattle.smf_core.proofs.draft.Work.switched.Goals as goal

pub returns : goal.returns
unfolding switched
returns c =
    let low : 16 ≤ c.loop-n.n = omega (arith, c.loop-n-test.false) in
    let high : c.loop-n.n ≤ 16 = omega (arith, c.loop-n.auto.n-end (omega arith)) in
    sym (over_at c.loop-n.n switched_at c.loop-n.self low high) ∙ c.loop-n.invariant
