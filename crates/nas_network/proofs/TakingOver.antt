-- A turn, and what the network becomes by it.
use Rattle.std.proofs.Common.{◌≡◌, ◌∙◌, ap, refl, sym, subst, ℕ, Bool, true, false, List, [], ◌∷◌, ◌++◌, Result, Ok, Err}
use Rattle.amf_core.specs.Step.{Stepped, worked}
use Rattle.amf_core.specs.declared.inputs.AmfInput.{AmfInput}
use Rattle.amf_core.specs.declared.inputs.AmfInput.TheVariants.{Uplink, Expired, Authenticate, Deregister, Update, Fence, Sessions, Down, Dropped}
use Rattle.amf_core.specs.declared.inputs.AmfRefusal.{AmfRefusal}
use Rattle.amf_core.specs.declared.outs.AmfOut.{AmfOut}
use Rattle.amf_core.specs.declared.outs.AmfOut.TheVariants as outs
use Rattle.nas_network.specs.TakingOver.{timers_after, timers_by, timers_taken}
use Rattle.nas_network.specs.State.{SubscriberTimers, started_for, stopped_for}
use Rattle.nas_network.specs.Turns.{Turn, all_taken, is_unrefused, stepped, taken}
use Rattle.nas_network.specs.declared.timers.TimerChange.{TimerChange}

-- one change more is the last
pub changed_last : (changes : List TimerChange) (change : TimerChange) (ss : List SubscriberTimers)
    → timers_after (changes ++ change ∷ []) ss ≡ timers_by change (timers_after changes ss)
changed_last [] change ss = refl
changed_last (first ∷ changes) change ss = changed_last changes change (timers_by first ss)

-- what goes out of a step does to the timers
pub taken_timers : (list : List AmfOut) (t : Turn) → (all_taken list t).network.timers ≡ timers_taken list t.network.timers
taken_timers [] t = refl
taken_timers (outs.Send send ∷ list) t = taken_timers list (taken (outs.Send send) t)
taken_timers (outs.Passed pass ∷ list) t = taken_timers list (taken (outs.Passed pass) t)
taken_timers (outs.Smf call ∷ list) t = taken_timers list (taken (outs.Smf call) t)
taken_timers (outs.Start supi id at ∷ list) t = taken_timers list (taken (outs.Start supi id at) t)
taken_timers (outs.Stop supi id ∷ list) t = taken_timers list (taken (outs.Stop supi id) t)

-- no refusal meets an input that is no command
pub never_refused : (rand : List ℕ) (input : AmfInput) (t : Turn) (e : AmfRefusal) → is_unrefused input ≡ true
    → stepped rand input t ≡ Err e → ⊥
unfolding worked
never_refused rand (Authenticate supi) t e true_of is = cc
never_refused rand (Deregister supi) t e true_of is = cc
never_refused rand (Update supi) t e true_of is = cc
never_refused rand (Uplink link fresh octets) t e true_of is = cc
never_refused rand (Expired supi id) t e true_of is = cc
never_refused rand (Fence supi) t e true_of is = cc
never_refused rand (Sessions supi status) t e true_of is = cc
never_refused rand (Down supi psi frame) t e true_of is = cc
never_refused rand (Dropped link) t e true_of is = cc
