use Rattle.amf_laws.proofs.UncheckedLaws.{failed_requests_rejected}
use Rattle.amf_laws.proofs.passing.failed_service_request_changes_nothing.Goals as goal

pub returns : goal.returns
returns c =
    failed_requests_rejected c.args.amf.now c.args.home.now c.args.now c.args.rand.now c.args.arrival.link c.args.arrival.fresh c.args.octets.now
