use Rattle.std.proofs.Common.{◌≡◌, take}
use Rattle.nas_qos.proofs.rule.copies.Given as goal

-- the rules so far
abbrev pub invariant-loop-rule : goal.invariant-loop-rule
invariant-loop-rule l = l.items.items ≡ take l.rule-index l.rules
