use Rattle.ue_mm.proofs.StepLaws.{timers_have_owners}
use Rattle.ue_mm.specs.State.{state_of}
use Rattle.ue_mm.proofs.laws.timers_have_owners.Goals as goal

pub returns : goal.returns
returns c = timers_have_owners (state_of c.args.state.now) c.args.now c.args.held.now c.args.input.now
