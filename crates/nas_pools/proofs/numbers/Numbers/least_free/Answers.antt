-- A number that is found is below the size.
use Rattle.nas_pools.specs.Bits.{is_marked}
use Rattle.nas_pools.proofs.FailingLemmas.{failing_below}
use Rattle.nas_pools.proofs.numbers.Numbers.least_free.Goals as goal

pub returns-clause-below : goal.returns-clause-below
returns-clause-below c =
    rw (← c.self.view_is) (failing_below (is_marked c.self.inside.words.items) c.self.inside.size c.first_free.result (rw (c.as_slice.ensures.value) at c.first_free.ensures))
