use Rattle.nas_qos.proofs.StayLaws.{others_stay}
use Rattle.nas_qos.proofs.laws.other_rules_stay.Goals as goal

pub returns : goal.returns
returns c = others_stay c.args.op.now c.args.rules.now
