use Rattle.amf_laws.proofs.TimerLaws.{subscribers_stay_distinct}
use Rattle.amf_laws.proofs.timers.subscribers_stay_distinct.Goals as goal

pub returns : goal.returns
returns c = subscribers_stay_distinct c.args.amf.now c.args.home.now c.args.now c.args.rand.now c.args.input.now
