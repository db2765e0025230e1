use Rattle.std.proofs.Common.{◌-◌, arith, sym}
use Rattle.std.proofs.lemmas.Bool.Decides.{nat_tests}
use Rattle.nas_timers.specs.declared.timer_id.TheConstants.{NAMES}
use Rattle.nas_handset.proofs.Due.{due_all, due_ended}
use Rattle.nas_handset.proofs.ticks.due_list.Goals.{else-loop-test, then-loop-test+in_default}
use Rattle.nas_handset.proofs.ticks.due_list.Goals as goal

pub returns : goal.returns
returns c =
    elim c.loop-test.branch [
      | else-loop-test w ↦ due_all (NAMES - c.loop.counter) c.args.now c.loop.left c.loop.list.items _ (grind (arith, nat_tests, w.loop-test)) c.loop.invariant
      | then-loop-test+in_default w ↦ due_ended (NAMES - c.loop.counter) c.args.now c.loop.left c.loop.list.items _ (rw (sym w.due.ensures) w.in_default.is) c.loop.invariant
    ]
