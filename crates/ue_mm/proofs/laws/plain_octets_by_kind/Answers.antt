use Rattle.ue_mm.proofs.PlainLaws.{plain_do_by_kind}
use Rattle.ue_mm.specs.State.{state_of}
use Rattle.ue_mm.proofs.laws.plain_octets_by_kind.Goals as goal

pub returns : goal.returns
returns c = plain_do_by_kind (state_of c.args.state.now) c.args.now c.args.held.now c.args.octets.now
