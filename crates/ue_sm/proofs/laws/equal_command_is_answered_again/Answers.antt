use Rattle.ue_sm.proofs.StepLaws.{answers_again}
use Rattle.ue_sm.proofs.laws.equal_command_is_answered_again.Goals as goal

pub returns : goal.returns
returns c = answers_again c.args.state.now c.args.now c.args.octets.now
