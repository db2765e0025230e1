use Rattle.nas_security.proofs.PassingLaws.{accepted_once}
use Rattle.nas_security.proofs.laws.accepted_once.Goals as goal

pub returns : goal.returns
returns c = accepted_once c.args.context.now c.args.dir c.args.count
