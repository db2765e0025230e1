use Rattle.std.proofs.Common.{◌≡◌, drop}
use Rattle.nas_qos.specs.Applying.{all_applied}
use Rattle.nas_qos.specs.Rules.{IsRules}
use Rattle.nas_qos.proofs.applying.apply.Given as goal

-- the rules so far, on which the operations that are left are still to be carried out
abbrev pub invariant-loop-op : goal.invariant-loop-op
invariant-loop-op l = record {
  told : all_applied (drop l.op-index l.op-items) l.items.items ≡ all_applied l.op-items l.rules;
  kept : IsRules l.items.items;
}
