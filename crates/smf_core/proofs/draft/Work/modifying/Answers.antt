use Rattle.smf_core.specs.Modification.{modifying}
use Rattle.smf_core.proofs.draft.Work.modifying.Goals as goal

pub returns : goal.returns
unfolding modifying
returns c = rw c.in_ok-message.ensures at c.give_out.ensures
