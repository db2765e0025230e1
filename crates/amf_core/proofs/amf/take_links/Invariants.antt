use Rattle.std.proofs.Common.{◌≡◌, ◌++◌, take, drop}
use Rattle.amf_core.specs.Keyed.{all_current}
use Rattle.amf_core.specs.State.{is_same_link}
use Rattle.amf_core.proofs.amf.take_links.Given as goal

-- the records so far, and those that are left as they are by now
abbrev pub invariant-loop-record : goal.invariant-loop-record
invariant-loop-record l =
    take l.record-index l.records ++ all_current is_same_link l.changed (drop l.record-index l.records)
    ≡ all_current is_same_link l.changed l.initial.records
