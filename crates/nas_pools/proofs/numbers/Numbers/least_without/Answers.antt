-- The number that is given back is free then, and the least one where none before it is.
use Rattle.std.proofs.Common.{sym, ◌∙◌}
use Rattle.nas_pools.proofs.ListLemmas.{least_alone, least_before, least_now}
use Rattle.nas_pools.proofs.numbers.Numbers.least_without.Goals as goal

pub returns-in-Some-clause-value : goal.returns-in-Some-clause-value
returns-in-Some-clause-value c =
    sym (least_before c.args.self.now.size c.args.number c.in-Some.least c.args.self.now.taken (sym c.least_free.ensures.value ∙ c.in-Some.is) c.if-least-number.true)

pub returns-in_default-clause-value : goal.returns-in_default-clause-value
returns-in_default-clause-value c =
    sym
    (least_now c.args.self.now.size c.args.number c.in-Some.least c.args.self.now.taken (sym c.least_free.ensures.value ∙ c.in-Some.is) c.if-least-number.false c.requires)

pub returns-in_default-2-clause-value : goal.returns-in_default-2-clause-value
returns-in_default-2-clause-value c =
    sym (least_alone c.args.self.now.size c.args.number c.args.self.now.taken (sym c.least_free.ensures.value ∙ c.in_default.is) c.requires)
