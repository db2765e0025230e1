use Rattle.smf_core.proofs.Fits.{release_command_fits}
use Rattle.smf_core.proofs.release.release_command.Goals as goal

pub of-requires : goal.of-requires
of-requires c = release_command_fits c.args.psi c.args.pti 36
