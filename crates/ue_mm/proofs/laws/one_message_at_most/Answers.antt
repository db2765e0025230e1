use Rattle.ue_mm.proofs.StepLaws.{one_message_at_most}
use Rattle.ue_mm.specs.State.{state_of}
use Rattle.ue_mm.proofs.laws.one_message_at_most.Goals as goal

pub returns : goal.returns
returns c = one_message_at_most (state_of c.args.state.now) c.args.now c.args.held.now c.args.input.now
