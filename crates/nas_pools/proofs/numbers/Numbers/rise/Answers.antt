-- The numbers whose bits are 1 rise.
use Rattle.std.proofs.Common.{arith}
use Rattle.nas_pools.specs.Bits.{is_marked}
use Rattle.nas_pools.proofs.PassingLemmas.{rise_passing}
use Rattle.nas_pools.proofs.numbers.Numbers.rise.Goals as goal

pub returns : goal.returns
returns c = rw (← c.self.view_is) (rise_passing (is_marked c.self.inside.words.items) 0 0 c.self.inside.size c.self.inside.size (omega arith) (omega arith))
