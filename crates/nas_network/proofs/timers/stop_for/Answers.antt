use Rattle.std.proofs.Common.{◌∙◌, List, length, set, arith, ap, sym}
use Rattle.nas_timers.specs.Timers.{Running, stopped}
use Rattle.nas_network.specs.State.{SubscriberTimers, changed_for}
use Rattle.nas_network.proofs.Changed.{changed_here}
use Rattle.nas_network.proofs.timers.stop_for.Goals as goal

pub returns-then-is_same_supi : goal.returns-then-is_same_supi
returns-then-is_same_supi c =
    let subscriber : SubscriberTimers = record { supi = c.subscriber.inside.supi; timers = c.subscriber.inside.timers } in
    ap (λ (ts : List Running). set c.loop-subscriber.timers c.loop-subscriber.subscriber-index (record { supi = c.subscriber.inside.supi; timers = ts }))
    c.stop.ensures
    ∙ (changed_here c.args.supi.now (stopped c.args.id) c.loop-subscriber.subscriber-index c.loop-subscriber.timers subscriber _
    (omega (arith, c.loop-subscriber-test.true, ap length c.loop-subscriber.invariant.same))
    c.subscriber.view_is (sym c.is_same_supi.ensures ∙ c.if-is_same_supi.true) c.loop-subscriber.invariant.told
    ∙ ap (changed_for c.args.supi.now (stopped c.args.id)) c.loop-subscriber.invariant.same)
