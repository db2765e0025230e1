use Rattle.ue_sm.proofs.Fits.{answer_fits}
use Rattle.ue_sm.proofs.work.Work.answer.Goals as goal

-- each answer is short
pub say-requires : goal.say-requires
say-requires c = rw c.message_of.ensures (answer_fits c.args.psi c.args.pti c.args.answer)
