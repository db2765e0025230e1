use Rattle.std.proofs.Common.{◌≡◌, ◌-◌, ◌++◌}
use Rattle.amf_core.specs.State.{numbered_from}
use Rattle.amf_core.proofs.amf.unused_links.Given as goal

-- the records so far and those of the numbers that are left
abbrev pub invariant-loop-number : goal.invariant-loop-number
invariant-loop-number l = l.records.items ++ numbered_from (65 - l.number) l.number ≡ numbered_from 64 1
