use Rattle.nas_security.proofs.PassingLaws.{one_message}
use Rattle.nas_security.proofs.laws.one_message.Goals as goal

pub returns : goal.returns
returns c = one_message c.args.one.now c.args.other.now c.args.dir c.args.octets.now c.args.count
