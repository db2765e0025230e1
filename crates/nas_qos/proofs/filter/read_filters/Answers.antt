use Rattle.std.proofs.Common.{sym, ◌∙◌, ap, arith}
use Rattle.std.specs.List.{list_all}
use Rattle.std.proofs.lemmas.Bool.{and_from}
use Rattle.std.proofs.lemmas.Result.{err_from_is_err_and}
use Rattle.nas_qos.specs.Filters.{ids_differ, is_filter}
use Rattle.nas_qos.proofs.FilterReading.{filters_once, filters_twice, more_read, no_filters, none_read}
use Rattle.nas_qos.proofs.filter.read_filters.Goals as goal

pub returns-in_err-filter : goal.returns-in_err-filter
returns-in_err-filter c =
    let p = err_from_is_err_and c.from_residual.result c.from_residual.ensures.1 in
    let read = rw c.split_at.ensures.back at c.in_err-filter.ensures in
    rw (p.1, p.2) (none_read c.args.number c.args.code c.args.octets.now c.loop-done._done c.loop-done.items.items c.loop-done.size _ c.loop-done.invariant (omega arith) read)

pub loop-done-preserved : goal.loop-done-preserved
loop-done-preserved c =
    let read = rw c.split_at.ensures.back at c.in_ok-filter.ensures in
    let size = rw c.split_at.ensures.back at c.filter_size-size.ensures in
    rw (c.in-Ok.ensures.items, size)
    (more_read c.args.number c.args.code c.args.octets.now c.loop-done._done c.loop-done.items.items c.loop-done.size _ c.loop-done.invariant (omega arith) read)

pub loop-done-init : goal.loop-done-init
loop-done-init c = no_filters c.args.number c.args.code c.args.octets.now c.new-items.result.items c.new-items.ensures.items

pub returns-then-not-ids_differ : goal.returns-then-not-ids_differ
returns-then-not-ids_differ c =
    filters_twice c.args.number c.args.code c.args.octets.now c.loop-done._done c.loop-done.items.items c.loop-done.size c.loop-done.invariant c.loop-done-test.false c.loop-done.auto._done-end
    (ap ids_differ (sym c.as_slice.ensures.value) ∙ sym c.if-not-ids_differ.ensures)

pub invariant_of-result : goal.invariant_of-result
invariant_of-result c =
    and_from (list_all is_filter c.loop-done.items.items) (ids_differ c.loop-done.items.items) c.loop-done.invariant.whole
    (ap ids_differ (sym c.as_slice.ensures.value) ∙ sym c.if-not-ids_differ.ensures)

pub returns : goal.returns
returns c =
    filters_once c.args.number c.args.code c.args.octets.now c.loop-done._done c.loop-done.items.items c.loop-done.size c.loop-done.invariant c.loop-done-test.false c.loop-done.auto._done-end
    (ap ids_differ (sym c.as_slice.ensures.value) ∙ sym c.if-not-ids_differ.ensures)
