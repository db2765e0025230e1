use Rattle.std.proofs.Common.{arith}
use Rattle.mm_entity.proofs.OpeningLaws.{opened_where_passing}
use Rattle.mm_entity.proofs.laws.opened_where_passing.Goals as goal

pub returns : goal.returns
returns c = opened_where_passing c.args.context.now c.args.dir c.args.octets.now (omega (arith, c.type_inv.octets 6))
