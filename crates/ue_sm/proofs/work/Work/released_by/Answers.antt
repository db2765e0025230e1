use Rattle.nas_base.specs.declared.sm_cause.TheConstants as cause
use Rattle.ue_sm.proofs.Fits.{release_request_fits}
use Rattle.ue_sm.proofs.work.Work.released_by.Goals as goal

-- the request is short
pub request-requires-clause-short : goal.request-requires-clause-short
request-requires-clause-short c =
    rw c.release_request-message.ensures (release_request_fits c.args.psi c.args.pti cause.REGULAR_DEACTIVATION)
