use Rattle.std.proofs.Common.{sym, ◌∙◌}
use Rattle.nas_elements.proofs.GutiFronts.{wrong_guti}
use Rattle.nas_elements.proofs.guti.Guti.read.Goals as goal

pub returns-in-Some : goal.returns-in-Some
returns-in-Some c = sym c.from_slice.ensures ∙ c.in-Some.is

pub returns-in-None : goal.returns-in-None
returns-in-None c = (sym c.from_slice.ensures ∙ c.in-None.is, rw c.met_by_guti.ensures (wrong_guti c.args.octets.now))
