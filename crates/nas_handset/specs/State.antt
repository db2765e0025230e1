-- A handset: its mobility management, the timers that run, and the moment that it was told last.
use Rattle.std.specs.Prelude.{ℕ, List, []}
use Rattle.nas_timers.specs.Timers.{Running}
use Rattle.ue_mm.specs.Config.{HandsetValues}
use Rattle.ue_mm.specs.State.{MmState}
use Rattle.ue_mm.specs.State as mm

pub record HandsetState : Type 0 where
  pub mm : MmState
  pub timers : List Running
  pub moment : ℕ

-- before any event: Deregistered and idle, and no timer runs
abbrev pub first : HandsetValues → HandsetState
first config = record { mm = mm.first config; timers = []; moment = 0 }
