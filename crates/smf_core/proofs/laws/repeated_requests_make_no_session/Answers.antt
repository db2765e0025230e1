use Rattle.smf_core.proofs.RequestLaws.{repeated_requests}
use Rattle.smf_core.proofs.laws.repeated_requests_make_no_session.Goals as goal

pub returns : goal.returns
returns c = repeated_requests
