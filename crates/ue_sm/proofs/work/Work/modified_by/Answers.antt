use Rattle.ue_sm.proofs.Fits.{modification_request_fits}
use Rattle.ue_sm.proofs.work.Work.modified_by.Goals as goal

-- the request is short, since operations have at most 2,048 octets
pub request-requires-clause-short : goal.request-requires-clause-short
request-requires-clause-short c =
    rw c.request_of-message.ensures
    (modification_request_fits c.args.psi c.args.pti c.in_ok-rules.rules c.in_ok-rules.ensures.short)
