-- Which timers of procedures run, and that they are those of the procedures that are open (TS 24.501 table 10.2.2).
use Rattle.std.specs.Prelude.{◌≡◌, ℕ, Bool, true, false, List, [], ◌∷◌, Option, Some, None, Result, Ok, Err, if◌then◌else◌}
use Rattle.std.specs.Str.{bytes_eq}
use Rattle.nas_timers.specs.declared.timer_id.TimerId.{TimerId}
use Rattle.nas_timers.specs.declared.timer_id.TimerId.TheVariants.{T3510, T3516, T3517, T3521, T3522, T3550, T3555, T3560, T3580, T3581, T3582, T3591, T3592}
use Rattle.amf_core.specs.State.{AmfState, subscriber_in}
use Rattle.amf_core.specs.Step.{Stepped}
use Rattle.amf_core.specs.declared.inputs.AmfInput.{AmfInput}
use Rattle.amf_core.specs.declared.inputs.AmfInput.TheVariants.{Uplink, Expired, Authenticate, Deregister, Update, Fence, Sessions, Down, Dropped}
use Rattle.amf_core.specs.declared.inputs.AmfRefusal.{AmfRefusal}
use Rattle.amf_core.specs.declared.outs.AmfOut.{AmfOut}
use Rattle.amf_core.specs.declared.outs.AmfOut.TheVariants.{Send, Passed, Smf, Start, Stop}
use Rattle.amf_core.specs.declared.procedures.Procedure.{Procedure}
use Rattle.amf_core.specs.declared.procedures.Procedure.TheVariants as procedures
use Rattle.amf_core.specs.declared.subscriber.Record.{Record}

-- the timers of a subscriber's procedures: T3560 of a challenge, T3550 of an acceptance, T3555 of an update, T3522 of a de-registration
pub record Running : Type 0 where
  pub t3560 : Bool
  pub t3550 : Bool
  pub t3555 : Bool
  pub t3522 : Bool

abbrev pub none_runs : Running
none_runs = record { t3560 = false; t3550 = false; t3555 = false; t3522 = false }

abbrev pub with_timer : TimerId → Bool → Running → Running
with_timer T3560 runs r = record r { t3560 = runs }
with_timer T3550 runs r = record r { t3550 = runs }
with_timer T3555 runs r = record r { t3555 = runs }
with_timer T3522 runs r = record r { t3522 = runs }
with_timer T3510 runs r = r
with_timer T3516 runs r = r
with_timer T3517 runs r = r
with_timer T3521 runs r = r
with_timer (T3580 psi) runs r = r
with_timer (T3581 psi) runs r = r
with_timer (T3582 psi) runs r = r
with_timer (T3591 psi) runs r = r
with_timer (T3592 psi) runs r = r

-- that of the procedure that is open, and no other
abbrev pub running_in : Procedure → Running
running_in procedures.Idle = none_runs
running_in (procedures.Challenging c) = with_timer T3560 true none_runs
running_in (procedures.Accepting a) = with_timer T3550 true none_runs
running_in (procedures.Updating u) = with_timer T3555 true none_runs
running_in (procedures.Deregistering d) = with_timer T3522 true none_runs

abbrev pub running_for : Option Record → Running
running_for None = none_runs
running_for (Some s) = running_in s.procedure

-- of a SUPI, and none where it isn't kept
abbrev pub running_of : List ℕ → AmfState → Running
running_of supi a = running_for (subscriber_in supi a.subscribers)

-- what goes out starts and stops timers of this SUPI, in order
abbrev pub taken_of : List ℕ → AmfOut → Running → Running
taken_of supi (Start other id at) r = if bytes_eq other supi then with_timer id true r else r
taken_of supi (Stop other id) r = if bytes_eq other supi then with_timer id false r else r
taken_of supi (Send message) r = r
taken_of supi (Passed pass) r = r
taken_of supi (Smf call) r = r

abbrev pub all_taken : List ℕ → List AmfOut → Running → Running
all_taken supi [] r = r
all_taken supi (out ∷ outs) r = all_taken supi outs (taken_of supi out r)

-- what runs of each SUPI behind what goes out
abbrev pub taken_by : List AmfOut → (List ℕ → Running) → List ℕ → Running
taken_by outs running supi = all_taken supi outs (running supi)

-- a timer that expired has stopped
abbrev pub expired_by : AmfInput → (List ℕ → Running) → List ℕ → Running
expired_by (Expired supi id) running other = if bytes_eq supi other then with_timer id false (running other) else running other
expired_by (Uplink link fresh octets) running other = running other
expired_by (Authenticate supi) running other = running other
expired_by (Deregister supi) running other = running other
expired_by (Update supi) running other = running other
expired_by (Fence supi) running other = running other
expired_by (Sessions supi status) running other = running other
expired_by (Down supi psi frame) running other = running other
expired_by (Dropped link) running other = running other

-- the timers that run are those of the procedures
abbrev pub FitProcedures : AmfState → (List ℕ → Running) → Type 0
FitProcedures a running = (supi : List ℕ) → running supi ≡ running_of supi a

-- no SUPI is kept twice
abbrev pub AreDistinct : List Record → Type 0
AreDistinct [] = Unit {0}
AreDistinct (s ∷ others) = (subscriber_in s.supi others ≡ None) × AreDistinct others

-- Where the timers that run were those of the procedures before a step, they are behind what goes out of it.
abbrev pub TimersFit : AmfState → AmfInput → Result Stepped AmfRefusal → Type 0
TimersFit a input (Ok new) =
    AreDistinct a.subscribers → (running : List ℕ → Running) → FitProcedures a running
    → FitProcedures new.amf (taken_by new.outs (expired_by input running))
TimersFit a input (Err refusal) = Unit {0}

-- no SUPI is kept twice behind a step where none was before it
abbrev pub StayDistinct : AmfState → Result Stepped AmfRefusal → Type 0
StayDistinct a (Ok new) = AreDistinct a.subscribers → AreDistinct new.amf.subscribers
StayDistinct a (Err refusal) = Unit {0}
