-- Which timers of procedures run at a handset (TS 24.501 clause 10.2).
use Rattle.std.specs.Prelude.{◌≡◌, Bool, true, false, List, Option, Some, None}
use Rattle.nas_timers.specs.Timers as timers
use Rattle.nas_timers.specs.Timers.{deadline_of}
use Rattle.nas_timers.specs.declared.timer_id.TimerId.TheVariants.{T3510, T3517, T3521}
use Rattle.ue_mm.specs.Laws.{Running, running_at, running_in}
use Rattle.ue_mm.specs.declared.inputs.UeInput.{UeInput}
use Rattle.nas_handset.specs.State.{HandsetState}

abbrev pub is_there : {A : Type 0} → Option A → Bool
is_there None = false
is_there (Some x) = true

-- those of the three that have a deadline
abbrev pub running_of : List timers.Running → Running
running_of ts = record {
  t3510 = is_there (deadline_of T3510 ts);
  t3517 = is_there (deadline_of T3517 ts);
  t3521 = is_there (deadline_of T3521 ts);
}

-- the timer of a procedure runs exactly while that procedure is open
abbrev pub HaveOwners : HandsetState → Type 0
HaveOwners h = running_of h.timers ≡ running_in h.mm.phase

-- an input that isn't the expiry of a timer
abbrev pub IsNoExpiry : UeInput → Type 0
IsNoExpiry input = (r : Running) → running_at input r ≡ r
