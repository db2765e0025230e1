use Rattle.ue_mm.proofs.PlainSecurity.{plain_secures_nothing}
use Rattle.ue_mm.specs.State.{state_of}
use Rattle.ue_mm.proofs.laws.plain_octets_secure_nothing.Goals as goal

pub returns : goal.returns
returns c = plain_secures_nothing (state_of c.args.state.now) c.args.now c.args.held.now c.args.octets.now
