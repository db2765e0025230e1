use Rattle.std.proofs.Common.{◌≡◌, drop}
use Rattle.amf_core.specs.Keyed.{found}
use Rattle.amf_core.specs.State.{has_supi}
use Rattle.amf_core.proofs.amf.record_of.Given as goal

-- the records that are left have the subscriber's, if any has
abbrev pub invariant-loop-record : goal.invariant-loop-record
invariant-loop-record l = found (has_supi l.supi) (drop l.record-index l.records) ≡ found (has_supi l.supi) l.records
