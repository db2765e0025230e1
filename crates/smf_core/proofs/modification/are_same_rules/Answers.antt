use Rattle.smf_core.proofs.SameRules.{told_same}
use Rattle.smf_core.proofs.modification.are_same_rules.Goals as goal

pub returns : goal.returns
returns c =
    told_same c.args.rules.now c.args.others.now
    (rw (← c.as_slice-rules.ensures.value) c.as_slice-rules.ensures.rules.each)
    (rw (← c.as_slice-others.ensures.value) c.as_slice-others.ensures.rules.each) c.equals.result c.equals.ensures.0 c.equals.ensures.1
