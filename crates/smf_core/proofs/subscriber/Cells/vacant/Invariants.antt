use Rattle.std.proofs.Common.{◌≡◌, replicate}
use Rattle.smf_core.specs.State.{vacant}
use Rattle.smf_core.proofs.subscriber.Cells.vacant.Given as goal

-- the cells so far and those that are left
abbrev pub invariant-loop-place : goal.invariant-loop-place
invariant-loop-place l = l.items.items ≡ replicate l.place vacant
