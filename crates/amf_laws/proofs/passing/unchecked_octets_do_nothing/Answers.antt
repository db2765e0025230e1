use Rattle.amf_laws.proofs.UncheckedLaws.{unchecked_do_nothing}
use Rattle.amf_laws.proofs.passing.unchecked_octets_do_nothing.Goals as goal

pub returns : goal.returns
returns c =
    unchecked_do_nothing c.args.amf.now c.args.home.now c.args.now c.args.rand.now c.args.arrival.link c.args.arrival.fresh c.args.octets.now
