use Rattle.ue_sm.proofs.StepLaws.{identities}
use Rattle.ue_sm.proofs.laws.identities_are_used_once.Goals as goal

pub returns : goal.returns
returns c = identities c.args.state.now c.args.now c.args.input.now
