use Rattle.std.proofs.Common.{◌≡◌, drop}
use Rattle.amf_core.specs.Naming.{is_any, is_guti}
use Rattle.amf_core.proofs.subscriber.Gutis.has.Given as goal

-- it stands among those that are left, if anywhere
abbrev pub invariant-loop-kept : goal.invariant-loop-kept
invariant-loop-kept l = is_any (is_guti l.guti) (drop l.kept-index l.kept-items) ≡ is_any (is_guti l.guti) l.kept-items
