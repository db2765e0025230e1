use Rattle.amf_laws.proofs.SupiLaws.{same_subscribers_are_kept}
use Rattle.amf_laws.proofs.kept.same_subscribers_are_kept.Goals as goal

pub returns : goal.returns
returns c = same_subscribers_are_kept c.args.amf.now c.args.home.now c.args.now c.args.rand.now c.args.input.now
