-- The number's bit becomes 0, and so does that of its word.
use Rattle.std.proofs.Common.{◌<◌, sym, subst}
use Rattle.nas_pools.specs.Numbers.{NumbersParts}
use Rattle.nas_pools.proofs.SummaryLemmas.{given_bits, word_there}
use Rattle.nas_pools.proofs.ViewLemmas.{shown_cleared}
use Rattle.nas_pools.proofs.numbers.Numbers.give.Goals as goal

pub invariant_of-self : goal.invariant_of-self
invariant_of-self c =
    let below : c.args.number < c.self.inside.size = subst (λ (n : NumbersParts). c.args.number < n.size) (sym c.self.view_is) c.requires in
    rw (c.clear.ensures, c.clear-2.ensures) (given_bits c.self.inside.size c.args.number c.self.inside.words.items c.self.inside.full.items c.self.invariant below)

pub returns : goal.returns
returns c =
    let below : c.args.number < c.self.inside.size = subst (λ (n : NumbersParts). c.args.number < n.size) (sym c.self.view_is) c.requires in
    rw (← c.self.view_is, c.clear.ensures)
    (shown_cleared c.self.inside.size c.args.number c.self.inside.words.items below
    (word_there c.self.inside.size c.args.number c.self.inside.words.items c.self.inside.full.items c.self.invariant below))
