use Rattle.std.proofs.Common.{sym, ◌∙◌}
use Rattle.nas_qos.proofs.OperationReading.{operation_read, starts}
use Rattle.nas_qos.proofs.reading.read_operation.Goals as goal

pub returns : goal.returns
returns c =
    operation_read c.args.id _ c.args.contents.now _ c.split_at.result.1.now c.in_ok-filters.filters c.in_ok-filters.size c.in-Some.tail (starts c.args.contents.now c.in-len1-up.len_at_least)
    c.requires (sym c.if-not-is_code.ensures) (sym c.has_number.ensures ∙ c.if-not-has_number.false) c.in_ok-filters.ensures.0 c.in_ok-filters.ensures.1 c.split_at.ensures.back
    c.in-Some.ensures.value c.in-Some.ensures.whole.0 c.in-Some.ensures.whole.1
