use Rattle.smf_core.proofs.Fits.{status_fits}
use Rattle.smf_core.proofs.draft.Work.status.Goals as goal

pub say-requires : goal.say-requires
say-requires c = status_fits c.args.psi c.args.pti c.args.cause
