use Rattle.nas_network.proofs.Lengths.{delivered_short}
use Rattle.nas_network.proofs.laws.delivery_sends_4096_octets_at_most.Goals as goal

pub returns : goal.returns
returns c = delivered_short c.args.rand.now c.args.link c.args.fresh c.args.octets.now c.args.network.now
