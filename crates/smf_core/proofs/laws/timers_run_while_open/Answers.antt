use Rattle.smf_core.proofs.TimerLaw.{timers_run}
use Rattle.smf_core.proofs.laws.timers_run_while_open.Goals as goal

pub returns : goal.returns
returns c = timers_run
