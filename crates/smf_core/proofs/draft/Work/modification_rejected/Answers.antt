use Rattle.smf_core.proofs.Fits.{modification_reject_fits}
use Rattle.smf_core.proofs.draft.Work.modification_rejected.Goals as goal

pub say-requires : goal.say-requires
say-requires c = modification_reject_fits c.args.psi c.args.pti c.args.cause
