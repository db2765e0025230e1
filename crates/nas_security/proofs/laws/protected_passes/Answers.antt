use Rattle.nas_security.proofs.PassingLaws.{protected_passes}
use Rattle.nas_security.proofs.laws.protected_passes.Goals as goal

pub returns : goal.returns
returns c = protected_passes c.args.sender.now c.args.receiver.now c.args.dir c.args.count c.args.header c.args.plain.now
