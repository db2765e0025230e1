use Rattle.std.proofs.Common.{◌≡◌, ◌-◌}
use Rattle.smf_core.specs.Asks.{each, each_from}
use Rattle.smf_core.specs.Release.{removed}
use Rattle.smf_core.specs.Drafts.{by}
use Rattle.smf_core.proofs.draft.Work.all_released.Given as goal

-- the rows of the identities that are left
abbrev pub invariant-loop-n : goal.invariant-loop-n
invariant-loop-n l = by (each_from (16 - l.n) l.n removed) l.self ≡ by (each removed) l.fn.self
