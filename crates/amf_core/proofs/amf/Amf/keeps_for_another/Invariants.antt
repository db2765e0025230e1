use Rattle.std.proofs.Common.{◌≡◌, drop}
use Rattle.amf_core.specs.Naming.{is_kept_for_another}
use Rattle.amf_core.proofs.amf.Amf.keeps_for_another.Given as goal

-- it stands among those that are left, if anywhere
abbrev pub invariant-loop-record : goal.invariant-loop-record
invariant-loop-record l =
    is_kept_for_another l.supi l.guti (drop l.record-index l.record-items) ≡ is_kept_for_another l.supi l.guti l.record-items
