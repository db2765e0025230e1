use Rattle.std.proofs.Common.{◌++◌, ◌∙◌, ap}
use Rattle.nas_qos.specs.Applying.{remaining}
use Rattle.nas_qos.specs.Filters.{is_filters}
use Rattle.nas_qos.proofs.RuleFacts.{left_filters}
use Rattle.nas_qos.proofs.filter.remaining.Goals as goal

pub invariant_of-result : goal.invariant_of-result
invariant_of-result c =
    ap is_filters (c.in_ok-append_remaining.ensures ∙ ap (λ fs. fs ++ remaining c.args.gone.now c.as_slice.result.now) c.new-items.ensures.items)
    ∙ left_filters c.args.gone.now c.as_slice.result.now c.as_slice.ensures.filters
