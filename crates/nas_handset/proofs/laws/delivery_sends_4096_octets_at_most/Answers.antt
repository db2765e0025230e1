use Rattle.nas_handset.proofs.Lengths.{delivered_short}
use Rattle.nas_handset.proofs.laws.delivery_sends_4096_octets_at_most.Goals as goal

pub returns : goal.returns
returns c = delivered_short c.args.octets.now c.args.handset.now
