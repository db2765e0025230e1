use Rattle.nas_handset.proofs.Lengths.{commanded_short}
use Rattle.nas_handset.proofs.laws.command_sends_4096_octets_at_most.Goals as goal

pub returns : goal.returns
returns c = commanded_short c.args.command.now c.args.handset.now
