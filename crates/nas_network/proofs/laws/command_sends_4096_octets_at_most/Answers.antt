use Rattle.nas_network.proofs.Lengths.{commanded_short}
use Rattle.nas_network.proofs.laws.command_sends_4096_octets_at_most.Goals as goal

pub returns : goal.returns
returns c = commanded_short c.args.rand.now c.args.command.now c.args.network.now
