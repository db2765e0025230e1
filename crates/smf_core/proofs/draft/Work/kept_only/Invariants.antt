use Rattle.std.proofs.Common.{◌≡◌, ◌-◌}
use Rattle.smf_core.specs.Asks.{each, each_from, kept_only_at}
use Rattle.smf_core.specs.Drafts.{by}
use Rattle.smf_core.proofs.draft.Work.kept_only.Given as goal

-- the rows of the identities that are left
abbrev pub invariant-loop-n : goal.invariant-loop-n
invariant-loop-n l =
    by (each_from (16 - l.n) l.n (kept_only_at l.status)) l.self ≡ by (each (kept_only_at l.status)) l.fn.self
