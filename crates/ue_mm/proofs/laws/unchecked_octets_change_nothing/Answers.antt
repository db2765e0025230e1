use Rattle.std.proofs.Common.{arith}
use Rattle.ue_mm.proofs.UncheckedLaws.{unchecked_do_nothing}
use Rattle.ue_mm.specs.State.{state_of}
use Rattle.ue_mm.proofs.laws.unchecked_octets_change_nothing.Goals as goal

pub returns : goal.returns
returns c =
    unchecked_do_nothing (state_of c.args.state.now) c.args.now c.args.held.now c.args.octets.now (omega (arith, c.type_inv.octets 6))
