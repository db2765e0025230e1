use Rattle.std.proofs.Common.{◌≡◌, take}
use Rattle.amf_core.proofs.amf.copied_links.Given as goal

-- the records so far
abbrev pub invariant-loop-record : goal.invariant-loop-record
invariant-loop-record l = l.records.items ≡ take l.record-index l.from
