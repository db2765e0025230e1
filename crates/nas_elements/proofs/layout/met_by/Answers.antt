use Rattle.std.proofs.Common.{sym, ◌∙◌, arith}
use Rattle.nas_elements.proofs.LayoutLaws.{met_end, met_next, met_not}
use Rattle.nas_elements.proofs.layout.met_by.Goals as goal
use Rattle.nas_elements.proofs.layout.met_by.Goals.{then-at-octets-via-then-at-octets, then-at-octets-via-else-at-octets+then-not-is_met}

pub loop-at-preserved : goal.loop-at-preserved
loop-at-preserved c =
    let meets = sym c.is_met.ensures ∙ c.if-not-is_met.false in
    let next = met_next c.loop-at.before c.loop-at.at c.args.lines.now c.args.octets.now _ c.loop-at-test.true (omega arith) meets in
    record { there = omega arith; told = omega (arith, next, c.loop-at.invariant.told) }

pub returns-then-at-octets : goal.returns-then-at-octets
returns-then-at-octets c = elim c.then-at-octets.branch [
  | then-at-octets-via-then-at-octets w ↦
      let none = met_end c.loop-at.before c.loop-at.at c.args.lines.now c.args.octets.now (omega arith) in
      omega (arith, none, c.loop-at.invariant.told)
  | then-at-octets-via-else-at-octets+then-not-is_met w ↦
      let meets = sym w.is_met.ensures ∙ w.if-not-is_met.true in
      let none = met_not c.loop-at.before c.loop-at.at c.args.lines.now c.args.octets.now _ c.loop-at-test.true (omega arith) meets in
      omega (arith, none, c.loop-at.invariant.told)
]
