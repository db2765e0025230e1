use Rattle.nas_network.proofs.Lengths.{ticked_short}
use Rattle.nas_network.proofs.laws.tick_sends_4096_octets_at_most.Goals as goal

pub returns : goal.returns
returns c = ticked_short c.args.rand.now c.args.now c.args.network.now
