use Rattle.nas_timers.proofs.DeadlineLaws.{stops_remove}
use Rattle.nas_timers.proofs.laws.stops_remove.Goals as goal

pub returns : goal.returns
returns c = stops_remove
