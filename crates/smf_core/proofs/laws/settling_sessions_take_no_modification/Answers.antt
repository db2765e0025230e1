use Rattle.smf_core.proofs.RequestLaws.{settling_sessions}
use Rattle.smf_core.proofs.laws.settling_sessions_take_no_modification.Goals as goal

pub returns : goal.returns
returns c = settling_sessions
