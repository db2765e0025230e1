use Rattle.smf_core.proofs.Fits.{modification_command_fits, ops_short}
use Rattle.smf_core.proofs.modification.spelled_command.Goals as goal

pub spelled_ops-requires : goal.spelled_ops-requires
spelled_ops-requires c = ops_short c.args.ops.now (rw (← c.as_slice-ops.ensures.value) c.as_slice-ops.ensures.ops)

pub of-requires : goal.of-requires
of-requires c =
    rw (c.in_ok-rules.ensures)
    (modification_command_fits c.args.psi c.args.pti c.args.ambr c.args.ops.now
    (ops_short c.args.ops.now (rw (← c.as_slice-ops.ensures.value) c.as_slice-ops.ensures.ops)))
