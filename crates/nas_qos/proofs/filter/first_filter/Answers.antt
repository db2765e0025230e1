use Rattle.std.proofs.Common.{take, get_or, ◌∙◌, ap}
use Rattle.nas_qos.proofs.FilterReading.{first_cut, named_first, named_is_filter, other_read}
use Rattle.nas_qos.proofs.filter.first_filter.Goals as goal

pub returns-then-octets-filter_size : goal.returns-then-octets-filter_size
returns-then-octets-filter_size c = first_cut c.args.code c.args.octets.now c.filter_size.result c.filter_size.ensures c.if-octets-filter_size.true

pub returns-then-code-eq-DELETE_FILTERS : goal.returns-then-code-eq-DELETE_FILTERS
returns-then-code-eq-DELETE_FILTERS c =
    named_first c.args.code c.args.octets.now c.filter_size.result c.new.result c.if-code-eq-DELETE_FILTERS.true c.filter_size.ensures c.if-octets-filter_size.false c.new.ensures

pub invariant_of-result : goal.invariant_of-result
invariant_of-result c = named_is_filter (get_or c.args.octets.now 0 0) c.new.result c.new.ensures

pub returns : goal.returns
returns c =
    other_read c.args.code c.args.octets.now c.split_at-2.result.0.now c.filter_size.result c.read_whole.result c.if-code-eq-DELETE_FILTERS.false c.filter_size.ensures c.if-octets-filter_size.false
    (c.split_at-2.ensures.front ∙ ap (take (get_or c.args.octets.now 1 0)) c.split_at.ensures.back) c.read_whole.ensures
