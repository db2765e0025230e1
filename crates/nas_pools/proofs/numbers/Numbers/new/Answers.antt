-- Where no bit is 1, no number is taken.
use Rattle.nas_pools.proofs.ViewLemmas.{shown_fresh}
use Rattle.nas_pools.proofs.numbers.Numbers.new.Goals as goal

pub returns : goal.returns
returns c = rw c.in_ok-zeros.ensures (shown_fresh c.args.size c.div_ceil-words.result)
