use Rattle.std.proofs.Common.{sym}
use Rattle.smf_core.proofs.Drafting.{slices_changed}
use Rattle.smf_core.proofs.draft.Work.slices.Goals as goal

pub returns : goal.returns
returns c = rw (← c.self.view_is) (sym (slices_changed _ _ _ _ _ c.self.invariant.found))
