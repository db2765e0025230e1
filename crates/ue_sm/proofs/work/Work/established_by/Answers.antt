use Rattle.ue_sm.proofs.Fits.{establishment_request_fits}
use Rattle.ue_sm.proofs.work.Work.established_by.Goals as goal

-- the request is short
pub request-requires-clause-short : goal.request-requires-clause-short
request-requires-clause-short c =
    rw c.establishment_request-message.ensures (establishment_request_fits c.args.psi c.args.pti c.args.kind)
