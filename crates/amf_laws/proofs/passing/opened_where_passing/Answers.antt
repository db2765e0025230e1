use Rattle.std.proofs.Common.{arith}
use Rattle.amf_laws.proofs.PassedLaws.{opened_where_passing}
use Rattle.amf_laws.proofs.passing.opened_where_passing.Goals as goal

pub returns : goal.returns
returns c =
    opened_where_passing c.args.amf.now c.args.home.now c.args.now c.args.rand.now c.args.arrival.link c.args.arrival.fresh c.args.octets.now
    (omega (arith, c.type_inv.octets 6))
