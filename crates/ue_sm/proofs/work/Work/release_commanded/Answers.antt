use Rattle.ue_sm.proofs.Fits.{release_complete_fits}
use Rattle.ue_sm.proofs.work.Work.release_commanded.Goals as goal

-- the answer is short
pub say-requires : goal.say-requires
say-requires c = release_complete_fits c.args.psi c.args.pti
