use Rattle.aes_cmac.proofs.AllOctets.{substitution_at}
use Rattle.aes_cmac.proofs.substitution.substituted.Goals as goal

pub returns : goal.returns
returns c = substitution_at c.args.octet c.ranges.octet.fits
