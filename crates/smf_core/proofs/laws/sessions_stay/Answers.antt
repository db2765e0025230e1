use Rattle.smf_core.proofs.StepSessions.{sessions_stay}
use Rattle.smf_core.proofs.laws.sessions_stay.Goals as goal

pub returns : goal.returns
returns c = sessions_stay
