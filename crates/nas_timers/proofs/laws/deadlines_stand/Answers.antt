use Rattle.nas_timers.proofs.DueLaws.{deadlines_stand}
use Rattle.nas_timers.proofs.laws.deadlines_stand.Goals as goal

pub returns : goal.returns
returns c = deadlines_stand
