use Rattle.ue_sm.proofs.Fits.{status_fits}
use Rattle.ue_sm.proofs.work.Work.status.Goals as goal

-- STATUS is short
pub say-requires : goal.say-requires
say-requires c = status_fits c.args.psi c.args.pti c.args.cause
