use Rattle.smf_core.proofs.Fits.{establishment_reject_fits}
use Rattle.smf_core.proofs.draft.Work.refused.Goals as goal

pub answered-requires : goal.answered-requires
answered-requires c = establishment_reject_fits c.args.asking.psi c.args.asking.pti c.args.cause
