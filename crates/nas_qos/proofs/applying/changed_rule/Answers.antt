use Rattle.std.proofs.Common.{ap, ◌∙◌}
use Rattle.nas_qos.specs.Applying.{changed_filters, qfi_in}
use Rattle.nas_qos.proofs.RuleFacts.{changed_is_rule, rule_made}
use Rattle.nas_qos.proofs.applying.changed_rule.Goals as goal

pub invariant_of-result : goal.invariant_of-result
invariant_of-result c =
    let whole = changed_is_rule c.args.op.now c.args.old.now (rw (← c.op.view_is) c.op.invariant) (rw (← c.old.view_is) c.old.invariant) c.requires.joins c.requires.leaves in
    rule_made c.args.op.now c.args.old.now c.old.inside.id c.old.inside.default c.in_ok-filters.filters c.precedence_in.result c.qfi_in.result
    (ap (λ r. r.id) c.old.view_is)
    (c.in_ok-filters.ensures ∙ ap (λ r. changed_filters c.args.op.now r.filters) c.old.view_is)
    (c.qfi_in.ensures ∙ ap (λ o. qfi_in o.tail c.old.inside.qfi) c.op.view_is ∙ ap (λ r. qfi_in c.args.op.now.tail r.qfi) c.old.view_is)
    whole
