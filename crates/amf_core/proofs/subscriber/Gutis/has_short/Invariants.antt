use Rattle.std.proofs.Common.{◌≡◌, drop}
use Rattle.amf_core.specs.Naming.{is_any, is_short_for}
use Rattle.amf_core.proofs.subscriber.Gutis.has_short.Given as goal

-- it is short for one of those that are left, if for any
abbrev pub invariant-loop-kept : goal.invariant-loop-kept
invariant-loop-kept l = is_any (is_short_for l.stmsi) (drop l.kept-index l.kept-items) ≡ is_any (is_short_for l.stmsi) l.kept-items
