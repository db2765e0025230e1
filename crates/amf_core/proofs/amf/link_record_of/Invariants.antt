use Rattle.std.proofs.Common.{◌≡◌, drop}
use Rattle.amf_core.specs.Keyed.{found}
use Rattle.amf_core.specs.State.{has_number}
use Rattle.amf_core.proofs.amf.link_record_of.Given as goal

-- the records that are left have the link's, if any has
abbrev pub invariant-loop-record : goal.invariant-loop-record
invariant-loop-record l = found (has_number l.number) (drop l.record-index l.records) ≡ found (has_number l.number) l.records
