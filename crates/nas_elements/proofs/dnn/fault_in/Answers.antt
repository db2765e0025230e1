use Rattle.std.proofs.Common.{sym, ◌∙◌, arith}
use Rattle.nas_elements.proofs.DnnLaws.{no_label}
use Rattle.nas_elements.proofs.dnn.fault_in.Goals as goal

-- no label starts where one is to
pub returns-else-label_fits : goal.returns-else-label_fits
returns-else-label_fits c =
    sym (no_label c.loop-at.at c.loop-at.owed c.args.octets.now (omega arith) (omega arith) (omega arith) (sym c.label_fits.ensures ∙ c.if-label_fits.false) c.loop-at.invariant.labels c.loop-at.invariant.front)
