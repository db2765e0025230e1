use Rattle.std.proofs.Common.{◌≡◌, drop}
use Rattle.amf_core.specs.Keyed.{newest}
use Rattle.amf_core.specs.State.{is_same_subscriber}
use Rattle.amf_core.proofs.amf.newest_subscriber.Given as goal

-- the records that are left have the newest, if any has
abbrev pub invariant-loop-record : goal.invariant-loop-record
invariant-loop-record l = newest is_same_subscriber (drop l.record-index l.changed) l.kept ≡ newest is_same_subscriber l.changed l.kept
