-- Which timers of procedures run at a network (TS 24.501 clause 10.2).
use Rattle.std.specs.Prelude.{◌≡◌, is_some, nat_le, ℕ, Bool, true, List, [], ◌∷◌, length}
use Rattle.std.specs.List.{list_all}
use Rattle.nas_timers.specs.Timers as timers
use Rattle.nas_timers.specs.Timers.{deadline_of}
use Rattle.nas_timers.specs.declared.timer_id.TimerId.TheVariants.{T3522, T3550, T3555, T3560}
use Rattle.amf_core.specs.declared.inputs.AmfInput.{AmfInput}
use Rattle.amf_core.specs.declared.subscriber.Record.{Record}
use Rattle.amf_laws.specs.Kept.{supis}
use Rattle.amf_laws.specs.Timers.{AreDistinct, FitProcedures, Running, expired_by}
use Rattle.nas_network.specs.State.{NetworkState, SubscriberTimers, timers_of}

-- those of the four that have a deadline
abbrev pub running_of : List timers.Running → Running
running_of ts = record {
  t3560 = is_some (deadline_of T3560 ts);
  t3550 = is_some (deadline_of T3550 ts);
  t3555 = is_some (deadline_of T3555 ts);
  t3522 = is_some (deadline_of T3522 ts);
}

-- those of a SUPI
abbrev pub running_for : List SubscriberTimers → List ℕ → Running
running_for ss supi = running_of (timers_of supi ss)

-- whom timers are kept for
abbrev pub timed : List SubscriberTimers → List (List ℕ)
timed [] = []
timed (s ∷ ss) = s.supi ∷ timed ss

-- two 5G-GUTIs at most are kept for each subscriber (TS 24.501 clauses 5.4.4 and 5.5.1.2.4)
abbrev pub keeps_few : Record → Bool
keeps_few s = nat_le (length s.kept) 2

abbrev pub all_keep_few : List Record → Bool
all_keep_few subscribers = list_all keeps_few subscribers

-- The timer of a procedure runs exactly while that procedure is open, for each SUPI. No SUPI is kept twice, timers are kept for those
-- that the AMF keeps, in their order, and of 5G-GUTIs two at most.
pub record HaveOwners (n : NetworkState) : Type 0 where
  pub fit : FitProcedures n.amf (running_for n.timers)
  pub distinct : AreDistinct n.amf.subscribers
  pub same : timed n.timers ≡ supis n.amf.subscribers
  pub few : all_keep_few n.amf.subscribers ≡ true

-- an input that isn't the expiry of a timer
abbrev pub IsNoExpiry : AmfInput → Type 0
IsNoExpiry input = (running : List ℕ → Running) (supi : List ℕ) → expired_by input running supi ≡ running supi
