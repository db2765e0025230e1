use Rattle.smf_core.proofs.Fits.{accept_fits}
use Rattle.smf_core.proofs.draft.Work.accepted.Goals as goal

pub answered-requires : goal.answered-requires
answered-requires c =
    rw (c.in_ok-body.ensures)
    (accept_fits c.args.asking.psi c.args.asking.pti c.args.asked.now c.args.address c.config.result.now.ambr
    (rw (← c.size-address.ensures.value) c.size-address.ensures.limit)
    (rw (← c.size-slice.ensures.value) c.size-slice.ensures.limit)
    (rw (← c.as_slice-dnn.ensures.value) c.as_slice-dnn.ensures.limit))
