-- A number is taken exactly where its bit is 1; no number from the size on is.
use Rattle.std.proofs.Common.{◌≡◌, sym, ◌∙◌, false, arith}
use Rattle.std.specs.Prelude.{nat_lt}
use Rattle.std.proofs.lemmas.Bool.Decides.{nat_tests}
use Rattle.nas_pools.proofs.PassingLemmas.{is_in_passing}
use Rattle.nas_pools.proofs.ViewLemmas.{not_shown}
use Rattle.nas_pools.specs.Bits.{is_marked}
use Rattle.nas_pools.proofs.numbers.Numbers.has.Goals as goal

pub returns-then-number-self-clause-value : goal.returns-then-number-self-clause-value
returns-then-number-self-clause-value c =
    rw (← c.self.view_is, c.is_marked.ensures, c.as_slice.ensures.value) (sym (is_in_passing (is_marked c.self.inside.words.items) c.self.inside.size c.args.number c.if-number-self.true))

pub returns-else-number-self-clause-value : goal.returns-else-number-self-clause-value
returns-else-number-self-clause-value c =
    let not_below : nat_lt c.args.number c.self.inside.size ≡ false = grind (arith, nat_tests) in
    rw (← c.self.view_is) (not_below ∙ sym (not_shown c.self.inside.size c.args.number c.self.inside.words.items c.if-number-self.false))
