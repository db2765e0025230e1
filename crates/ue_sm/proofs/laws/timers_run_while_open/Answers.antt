use Rattle.ue_sm.proofs.TimerLaw.{timers_run}
use Rattle.ue_sm.proofs.laws.timers_run_while_open.Goals as goal

pub returns : goal.returns
returns c = timers_run c.args.state.now c.args.now c.args.input.now c.are_fifteen.ensures c.sessions_are_named.ensures
