use Rattle.nas_timers.proofs.DeadlineLaws.{starts_replace}
use Rattle.nas_timers.proofs.laws.starts_replace.Goals as goal

pub returns : goal.returns
returns c = starts_replace
