use Rattle.std.proofs.Common.{arith, sym}
use Rattle.std.proofs.lemmas.Bool.Decides.{nat_tests}
use Rattle.std.proofs.lemmas.List.{take_all}
use Rattle.nas_network.proofs.network.most_of.Goals as goal

pub returns-then-octets-le-MOST_TAKEN : goal.returns-then-octets-le-MOST_TAKEN
returns-then-octets-le-MOST_TAKEN c = sym (take_all 4097 c.args.octets.now (grind (arith, nat_tests, c.if-octets-le-MOST_TAKEN.true)))
