use Rattle.std.proofs.Common.{sym, ◌∙◌, arith}
use Rattle.std.proofs.lemmas.Bool.Decides.{nat_tests}
use Rattle.nas_elements.proofs.NssaiReading.{next_read, nothing_read, wrong_end, wrong_none, wrong_start}
use Rattle.nas_elements.proofs.nssai.Nssai.read.Goals as goal

pub loop-rest-init : goal.loop-rest-init
loop-rest-init c = rw c.new-items.ensures (nothing_read c.args.octets.now)

pub returns-then-not-starts_slice : goal.returns-then-not-starts_slice
returns-then-not-starts_slice c =
    wrong_start c.args.octets.now c.loop-rest.items.items c.loop-rest.rest.now c.loop-rest.invariant
    (grind (arith, nat_tests, c.is_empty.ensures, c.loop-rest-test.true))
    (rw (← c.len.ensures.value) (sym c.starts_slice.ensures ∙ c.if-not-starts_slice.true))

pub returns-in_default : goal.returns-in_default
returns-in_default c =
    wrong_end c.args.octets.now c.loop-rest.items.items c.loop-rest.rest.now c.loop-rest.invariant
    (grind (arith, nat_tests, c.is_empty.ensures, c.loop-rest-test.true))
    (rw (← c.len.ensures.value) (sym c.starts_slice.ensures ∙ c.if-not-starts_slice.false))
    (sym c.first_slice.ensures ∙ c.in_default.is)

pub loop-rest-preserved : goal.loop-rest-preserved
loop-rest-preserved c =
    next_read c.args.octets.now c.loop-rest.items.items c.loop-rest.rest.now c.in-Some.slice _ _ c.loop-rest.invariant
    (grind (arith, nat_tests, c.is_empty.ensures, c.loop-rest-test.true))
    (rw (← c.len.ensures.value) (sym c.starts_slice.ensures ∙ c.if-not-starts_slice.false))
    (sym c.first_slice.ensures ∙ c.in-Some.is)
    c.push.ensures.items
    c.split_at.ensures.back

pub returns-then-is_empty : goal.returns-then-is_empty
returns-then-is_empty c =
    wrong_none c.args.octets.now c.loop-rest.items.items c.loop-rest.rest.now c.loop-rest.invariant
    (grind (arith, nat_tests, c.is_empty.ensures, c.loop-rest-test.false))
    (grind (arith, nat_tests, c.is_empty-2.ensures, c.if-is_empty.true))
