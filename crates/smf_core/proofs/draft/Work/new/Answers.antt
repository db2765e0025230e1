use Rattle.std.proofs.Common.{refl}
use Rattle.smf_core.proofs.Drafting.{changed_nothing}
use Rattle.smf_core.proofs.draft.Work.new.Goals as goal

pub returns : goal.returns
returns c = rw (c.new.ensures.items, c.new-2.ensures, changed_nothing c.args.supi.now c.args.before.now) refl
