use Rattle.std.proofs.Common.{◌≡◌, drop}
use Rattle.amf_core.specs.Keyed.{all_current, found}
use Rattle.amf_core.specs.Naming.{keeps_stmsi}
use Rattle.amf_core.specs.State.{is_same_subscriber}
use Rattle.amf_core.proofs.draft.Draft.short_keeper.Given as goal

-- the records that are left have the keeper's by now, if any has
abbrev pub invariant-loop-record : goal.invariant-loop-record
invariant-loop-record l =
    found (keeps_stmsi l.stmsi) (all_current is_same_subscriber l.changes.subscribers (drop l.record-index l.record-items))
    ≡ found (keeps_stmsi l.stmsi) (all_current is_same_subscriber l.changes.subscribers l.record-items)
