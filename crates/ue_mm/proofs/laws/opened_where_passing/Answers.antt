use Rattle.std.proofs.Common.{arith}
use Rattle.ue_mm.proofs.UncheckedLaws.{opened_where_passing}
use Rattle.ue_mm.specs.State.{state_of}
use Rattle.ue_mm.proofs.laws.opened_where_passing.Goals as goal

pub returns : goal.returns
returns c =
    opened_where_passing (state_of c.args.state.now) c.args.now c.args.held.now c.args.octets.now (omega (arith, c.type_inv.octets 6))
