use Rattle.smf_core.proofs.Fits.{release_reject_fits}
use Rattle.smf_core.proofs.draft.Work.release_rejected.Goals as goal

pub say-requires : goal.say-requires
say-requires c = release_reject_fits c.args.psi c.args.pti c.args.cause
