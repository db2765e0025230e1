use Rattle.nas_qos.proofs.StayLaws.{unnamed_stay}
use Rattle.nas_qos.proofs.laws.unnamed_rules_stay.Goals as goal

pub returns : goal.returns
returns c = unnamed_stay c.args.ops.now c.args.rules.now
