use Rattle.amf_laws.proofs.LengthLaws.{messages_fit}
use Rattle.amf_laws.proofs.lengths.messages_have_4096_octets_at_most.Goals as goal

pub returns : goal.returns
returns c = messages_fit c.args.amf.now c.args.home.now c.args.now c.args.rand.now c.args.input.now
