use Rattle.std.proofs.Common.{sym}
use Rattle.smf_core.proofs.Drafting.{dnns_changed}
use Rattle.smf_core.proofs.draft.Work.dnns.Goals as goal

pub returns : goal.returns
returns c = rw (← c.self.view_is) (sym (dnns_changed _ _ _ _ _ c.self.invariant.found))
