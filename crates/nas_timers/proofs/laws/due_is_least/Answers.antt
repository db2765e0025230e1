use Rattle.nas_timers.proofs.DueLaws.{due_is_least}
use Rattle.nas_timers.proofs.laws.due_is_least.Goals as goal

pub returns : goal.returns
returns c = due_is_least
