use Rattle.nas_security.proofs.VerdictLaws.{are_judged}
use Rattle.nas_security.proofs.laws.verdicts_have_causes.Goals as goal

pub returns : goal.returns
returns c = are_judged c.args.context.now c.args.dir c.args.octets.now
