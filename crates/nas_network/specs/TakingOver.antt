-- A turn while it goes on, beside the network that it began on, and what that network becomes when it is taken over.
use Rattle.std.specs.Prelude.{◌≡◌, ℕ, List, [], ◌∷◌, Result, Ok, Err}
use Rattle.amf_core.specs.Changes.{ChangeLists, changed, home_now}
use Rattle.nas_base.specs.Outcomes.{RefusesAs}
use Rattle.amf_core.specs.Outcome as amf
use Rattle.amf_core.specs.Step.{Stepped}
use Rattle.amf_core.specs.declared.inputs.AmfRefusal.{AmfRefusal}
use Rattle.amf_core.specs.declared.outs.AmfOut.{AmfOut}
use Rattle.amf_core.specs.declared.outs.AmfOut.TheVariants as outs
use Rattle.nas_network.specs.Network.{answered, wants_memory}
use Rattle.nas_network.specs.State.{NetworkState, SubscriberTimers, started_for, stopped_for}
use Rattle.nas_network.specs.Turns.{Turn, onto, reached}
use Rattle.nas_network.specs.declared.command.NetDelivery.{NetDelivery}
use Rattle.nas_network.specs.declared.command.NetRefusal.{NetRefusal}
use Rattle.nas_network.specs.declared.timers.TimerChange.{TimerChange}
use Rattle.nas_network.specs.declared.timers.TimerChange.TheVariants.{Start, Stop}

-- a timer of a subscriber starts or stops; one after the other
abbrev pub timers_by : TimerChange → List SubscriberTimers → List SubscriberTimers
timers_by (Start supi id at) ss = started_for supi id at ss
timers_by (Stop supi id) ss = stopped_for supi id ss

abbrev pub timers_after : List TimerChange → List SubscriberTimers → List SubscriberTimers
timers_after [] ss = ss
timers_after (c ∷ cs) ss = timers_after cs (timers_by c ss)

-- what goes out of a step starts and stops them
abbrev pub timers_taken : List AmfOut → List SubscriberTimers → List SubscriberTimers
timers_taken [] ss = ss
timers_taken (outs.Start supi id at ∷ list) ss = timers_taken list (started_for supi id at ss)
timers_taken (outs.Stop supi id ∷ list) ss = timers_taken list (stopped_for supi id ss)
timers_taken (outs.Send send ∷ list) ss = timers_taken list ss
timers_taken (outs.Passed pass ∷ list) ss = timers_taken list ss
timers_taken (outs.Smf call ∷ list) ss = timers_taken list ss

abbrev pub changed_by : TimerChange → Turn → Turn
changed_by c t = record t { network = record t.network { timers = timers_by c t.network.timers } }

-- what a turn changed of a network: the AMF's records and the home network, the timers, and the moment
pub record TurnChanges : Type 0 where
  pub changes : ChangeLists
  pub timers : List TimerChange
  pub moment : ℕ

abbrev pub taken_over : TurnChanges → NetworkState → NetworkState
taken_over l n = record {
  amf = changed l.changes n.amf;
  home = home_now l.changes.home n.home;
  timers = timers_after l.timers n.timers;
  moment = l.moment;
}

-- a turn, beside the network that it began on
pub record TurningState : Type 0 where
  pub turn : Turn
  pub before : NetworkState

-- what the step of an input left, and what goes out of it, which isn't taken yet
abbrev pub left : Turn → List AmfOut → Stepped
left t outs = record { amf = t.network.amf; home = t.network.home; outs = outs }

abbrev pub Reaches : TurningState → Result (TurningState × List AmfOut) AmfRefusal → Result Stepped AmfRefusal → Type 0
Reaches old (Ok (new, outs)) step = (step ≡ Ok (left new.turn outs)) × (new.turn ≡ reached (left new.turn outs) old.turn) × (new.before ≡ old.before)
Reaches old (Err refusal) step = RefusesAs amf.wants_memory refusal step

-- the same with what goes out
abbrev pub StepsOn : TurningState → Result TurningState AmfRefusal → Result Stepped AmfRefusal → Type 0
StepsOn old (Ok new) (Ok s) = (new.turn ≡ onto (Ok s) old.turn) × (new.before ≡ old.before)
StepsOn old (Ok new) (Err refusal) = ⊥
StepsOn old (Err refusal) step = RefusesAs amf.wants_memory refusal step

-- what a command comes to, where the network takes it over
abbrev pub FollowsCommand : NetworkState → Result (TurnChanges × NetDelivery) NetRefusal → Result Turn NetRefusal → Type 0
FollowsCommand n (Ok followed) row = row ≡ Ok (answered (taken_over followed.0 n) followed.1)
FollowsCommand n (Err refusal) row = RefusesAs wants_memory refusal row
