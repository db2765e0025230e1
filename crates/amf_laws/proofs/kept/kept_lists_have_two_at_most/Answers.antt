use Rattle.amf_laws.proofs.KeptLaws.{kept_lists_have_two_at_most}
use Rattle.amf_laws.proofs.kept.kept_lists_have_two_at_most.Goals as goal

pub returns : goal.returns
returns c = kept_lists_have_two_at_most c.args.amf.now c.args.home.now c.args.now c.args.rand.now c.args.input.now
