use Rattle.std.proofs.Common.{◌∙◌, length, arith, ap, sym}
use Rattle.milenage.specs.Home.{with_sqn}
use Rattle.milenage.proofs.HomeLemmas.{set_here}
use Rattle.milenage.proofs.subscribers.set_first.Goals as goal

pub returns-then-eq : goal.returns-then-eq
returns-then-eq c =
    set_here c.args.supi.now c.args.sqn c.loop-subscriber.subscriber-index c.loop-subscriber.subscribers _ _
    (omega (arith, c.loop-subscriber-test.true, ap length c.loop-subscriber.invariant.same))
    c.subscriber.view_is (sym c.eq.ensures ∙ c.if-eq.true) c.loop-subscriber.invariant.told
    ∙ ap (with_sqn c.args.supi.now c.args.sqn) c.loop-subscriber.invariant.same
