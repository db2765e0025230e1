-- A call that is to fail writes the first half.
use Rattle.std.proofs.Common.{length, ◌/◌, true, ap, arith}
use Rattle.std.proofs.lemmas.Grind.{common_steps}
use Rattle.nas_base.specs.Sinks.{Trial}
use Rattle.nas_base.proofs.SinkLaws.{front_first}
use Rattle.nas_base.proofs.sinks.FaultySinkSink.write.Goals as goal

pub returns-then-fails-clause-tells : goal.returns-then-fails-clause-tells
returns-then-fails-clause-tells c =
    let faults = ap (λ (t : Trial). t.faults) c.self.view_is in
    (front_first (length c.args.octets.now / 2) true _ _ _ (grind (arith, common_steps)), omega (arith, faults))
