use Rattle.ue_sm.proofs.StepLaws.{ignores}
use Rattle.ue_sm.proofs.laws.command_is_ignored_while_releasing.Goals as goal

pub returns : goal.returns
returns c = ignores c.args.state.now c.args.now c.args.octets.now
