use Rattle.amf_laws.proofs.TimerLaws.{timers_fit_procedures}
use Rattle.amf_laws.proofs.timers.timers_fit_procedures.Goals as goal

pub returns : goal.returns
returns c = timers_fit_procedures c.args.amf.now c.args.home.now c.args.now c.args.rand.now c.args.input.now
