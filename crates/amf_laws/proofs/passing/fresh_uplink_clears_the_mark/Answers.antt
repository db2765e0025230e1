use Rattle.amf_laws.proofs.MarkLaws.{fresh_uplink_clears_the_mark}
use Rattle.amf_laws.proofs.passing.fresh_uplink_clears_the_mark.Goals as goal

pub returns : goal.returns
returns c = fresh_uplink_clears_the_mark c.args.amf.now c.args.home.now c.args.now c.args.rand.now c.args.link c.args.octets.now
