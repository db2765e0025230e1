use Rattle.amf_laws.proofs.PlainLaws.{plain_do_by_kind}
use Rattle.amf_laws.proofs.passing.plain_octets_by_kind.Goals as goal

pub returns : goal.returns
returns c =
    plain_do_by_kind c.args.amf.now c.args.home.now c.args.now c.args.rand.now c.args.arrival.link c.args.arrival.fresh c.args.octets.now
