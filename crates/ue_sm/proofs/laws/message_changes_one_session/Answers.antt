use Rattle.ue_sm.proofs.StepLaws.{one_session}
use Rattle.ue_sm.proofs.laws.message_changes_one_session.Goals as goal

pub returns : goal.returns
returns c = one_session c.args.state.now c.args.now c.args.octets.now
