use Rattle.std.proofs.Common.{arith, rules, sym, subst}
use Rattle.nas_base.specs.Outside.{AppendsFront}
use Rattle.nas_cli.proofs.OutputLaws.{appends_more, front_ended, front_stopped, rose_failed}
use Rattle.nas_cli.proofs.output.OutputSink.write.Goals as goal

pub loop-taken-preserved : goal.loop-taken-preserved
loop-taken-preserved g c =
    let before = c.loop-taken.invariant in
    (before.0, search rules, appends_more _ _ _ c.loop-taken.taken c.in-Ok.count c.args.octets.now before.2 c.in-Ok.ensures.bytes)

pub returns-in-Ok-eq0 : goal.returns-in-Ok-eq0
returns-in-Ok-eq0 g c =
    let before = c.loop-taken.invariant in
    let taken = c.in-Ok-eq0 in
    let failed = c.failed.ensures in
    let front = front_ended _ _ _ c.loop-taken.taken c.args.octets.now c.write.result taken.field-0 taken.is taken.field-0-test before.2 c.write.ensures.bytes in (
      subst (λ w. AppendsFront (g.W.Write.contents c.args.self.now.writer) (g.W.Write.contents w) c.args.octets.now) (sym failed.writer) front,
      rose_failed _ _ _ _ failed.value before.0 failed.rose,
    )

pub returns-in-Err : goal.returns-in-Err
returns-in-Err g c =
    let before = c.loop-taken.invariant in
    (front_stopped _ _ _ c.loop-taken.taken c.args.octets.now before.2 c.in-Err.ensures.bytes, omega (arith, before.0))

pub returns-in-Err-2 : goal.returns-in-Err-2
returns-in-Err-2 g c =
    let before = c.loop-taken.invariant in
    let failed = c.failed-in-Err-2.ensures in
    let front = front_stopped _ _ _ c.loop-taken.taken c.args.octets.now before.2 c.in-Err-2.ensures.bytes in (
      subst (λ w. AppendsFront (g.W.Write.contents c.args.self.now.writer) (g.W.Write.contents w) c.args.octets.now) (sym failed.writer) front,
      rose_failed _ _ _ _ failed.value before.0 failed.rose,
    )
