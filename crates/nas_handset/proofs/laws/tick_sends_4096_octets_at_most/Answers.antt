use Rattle.nas_handset.proofs.Lengths.{ticked_short}
use Rattle.nas_handset.proofs.laws.tick_sends_4096_octets_at_most.Goals as goal

pub returns : goal.returns
returns c = ticked_short c.args.now c.args.handset.now
