-- All pieces are counted.
use Rattle.std.proofs.Common.{◌∙◌}
use Rattle.mm_messages.proofs.Bodies.{none_too_many, sum_of_all}
use Rattle.mm_messages.proofs.message.size_of.Goals as goal

pub unreachable-requires : goal.unreachable-requires
unreachable-requires c = none_too_many c.args.value.now c.new-size.result c.new-size.ensures (rw c.in-Err.is at c.tell.ensures)

pub returns-clause-value : goal.returns-clause-value
returns-clause-value c =
    c.octets.ensures.value ∙ sum_of_all c.args.value.now c.new-size.result c.tell.new.to c.new-size.ensures (rw c.in-Ok.is at c.tell.ensures)
