use Rattle.amf_laws.proofs.OtherLaws.{other_subscribers_stay}
use Rattle.amf_laws.proofs.others.other_subscribers_stay.Goals as goal

pub returns : goal.returns
returns c = other_subscribers_stay c.args.amf.now c.args.home.now c.args.now c.args.rand.now c.args.input.now
