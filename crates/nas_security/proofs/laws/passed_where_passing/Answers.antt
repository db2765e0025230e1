use Rattle.std.proofs.Common.{arith}
use Rattle.nas_security.proofs.PassingLaws.{passed_where_passing}
use Rattle.nas_security.proofs.laws.passed_where_passing.Goals as goal

pub returns : goal.returns
returns c = passed_where_passing c.args.context.now c.args.dir c.args.octets.now (omega (arith, c.type_inv.octets 6))
