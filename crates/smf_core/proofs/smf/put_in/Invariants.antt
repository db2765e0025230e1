use Rattle.std.proofs.Common.{◌≡◌, true}
use Rattle.smf_core.proofs.Places.{none_before}
use Rattle.smf_core.proofs.smf.put_in.Given as goal

-- nothing has changed, and none of those before is of the SUPI
abbrev pub invariant-loop-place : goal.invariant-loop-place
invariant-loop-place l = (l.subscribers ≡ l.fn.subscribers) × (none_before l.place l.supi l.subscribers ≡ true)
