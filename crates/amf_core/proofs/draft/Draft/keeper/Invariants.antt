use Rattle.std.proofs.Common.{◌≡◌, drop}
use Rattle.amf_core.specs.Keyed.{all_current, found}
use Rattle.amf_core.specs.Naming.{keeps_guti}
use Rattle.amf_core.specs.State.{is_same_subscriber}
use Rattle.amf_core.proofs.draft.Draft.keeper.Given as goal

-- the records that are left have the keeper's by now, if any has
abbrev pub invariant-loop-record : goal.invariant-loop-record
invariant-loop-record l =
    found (keeps_guti l.guti) (all_current is_same_subscriber l.changes.subscribers (drop l.record-index l.record-items))
    ≡ found (keeps_guti l.guti) (all_current is_same_subscriber l.changes.subscribers l.record-items)
