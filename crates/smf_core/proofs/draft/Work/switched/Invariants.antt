use Rattle.std.proofs.Common.{◌≡◌, ◌-◌}
use Rattle.smf_core.specs.Asks.{each, each_from, switched_at}
use Rattle.smf_core.specs.Drafts.{by}
use Rattle.smf_core.proofs.draft.Work.switched.Given as goal

-- the rows of the identities that are left
abbrev pub invariant-loop-n : goal.invariant-loop-n
invariant-loop-n l = by (each_from (16 - l.n) l.n switched_at) l.self ≡ by (each switched_at) l.fn.self
