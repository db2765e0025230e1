use Rattle.ue_mm.proofs.LengthLaws.{messages_fit}
use Rattle.ue_mm.specs.State.{state_of}
use Rattle.ue_mm.proofs.laws.messages_have_4096_octets_at_most.Goals as goal

pub returns : goal.returns
returns c = messages_fit (state_of c.args.state.now) c.args.now c.args.held.now c.args.input.now
