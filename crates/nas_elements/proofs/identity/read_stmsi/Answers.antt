use Rattle.nas_elements.proofs.IdentityFronts.{wrong_as_stmsi}
use Rattle.nas_elements.proofs.identity.read_stmsi.Goals as goal

pub returns-in-Err : goal.returns-in-Err
returns-in-Err c = wrong_as_stmsi c.args.octets.now c.in-Err.wrong.at c.requires.kind c.requires.some c.in-Err.ensures
