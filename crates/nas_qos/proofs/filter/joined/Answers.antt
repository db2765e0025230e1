use Rattle.std.proofs.Common.{◌≡◌, true, ◌++◌, ◌∙◌, ap}
use Rattle.nas_qos.specs.Filters.{is_filters}
use Rattle.nas_qos.proofs.RuleFacts.{joined_filters}
use Rattle.nas_qos.proofs.filter.joined.Goals as goal

pub invariant_of-result : goal.invariant_of-result
invariant_of-result c =
    let old : is_filters c.args.there.now ≡ true = rw c.as_slice.ensures.value at c.as_slice.ensures.filters in
    let new : is_filters c.args.more.now ≡ true = rw c.as_slice-2.ensures.value at c.as_slice-2.ensures.filters in
    ap is_filters
    (c.in_ok-append-2.ensures
    ∙ ap (λ fs. fs ++ c.as_slice-2.result.now) (c.in_ok-append.ensures ∙ ap (λ fs. fs ++ c.as_slice.result.now) c.new-items.ensures.items ∙ c.as_slice.ensures.value)
    ∙ ap (λ fs. c.args.there.now ++ fs) c.as_slice-2.ensures.value)
    ∙ joined_filters c.args.there.now c.args.more.now old new c.requires

pub returns : goal.returns
returns c =
    c.in_ok-append-2.ensures
    ∙ ap (λ fs. fs ++ c.as_slice-2.result.now) (c.in_ok-append.ensures ∙ ap (λ fs. fs ++ c.as_slice.result.now) c.new-items.ensures.items ∙ c.as_slice.ensures.value)
    ∙ ap (λ fs. c.args.there.now ++ fs) c.as_slice-2.ensures.value
