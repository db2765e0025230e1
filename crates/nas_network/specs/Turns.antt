-- What becomes of what goes out of a step.
use Rattle.std.specs.Prelude.{ℕ, Bool, true, false, List, [], ◌∷◌, ◌++◌, Option, Some, None, Result, Ok, Err}
use Rattle.nas_security.specs.declared.sends.Pass.{Pass}
use Rattle.nas_security.specs.declared.sends.Send.{Send}
use Rattle.amf_core.specs.Step.{Stepped, step_of}
use Rattle.amf_core.specs.declared.inputs.AmfInput.{AmfInput}
use Rattle.amf_core.specs.declared.inputs.AmfInput.TheVariants.{Uplink, Expired, Authenticate, Deregister, Update, Fence, Sessions, Down, Dropped}
use Rattle.amf_core.specs.declared.inputs.AmfRefusal.{AmfRefusal}
use Rattle.amf_core.specs.declared.outs.AmfOut.{AmfOut}
use Rattle.amf_core.specs.declared.outs.AmfOut.TheVariants as outs
use Rattle.nas_network.specs.State.{NetworkState, started_for, stopped_for}

-- a network while it takes its steps, with the messages that were sent, and the check that was passed
pub record Turn : Type 0 where
  pub network : NetworkState
  pub sends : List Send
  pub passed : Option Pass

-- Messages are sent, timers of the subscribers start and stop, and what passed is told. What an SMF is asked is for nobody yet.
abbrev pub taken : AmfOut → Turn → Turn
taken (outs.Send send) t = record t { sends = t.sends ++ send ∷ [] }
taken (outs.Passed pass) t = record t { passed = Some pass }
taken (outs.Smf call) t = t
taken (outs.Start supi id at) t = record t { network = record t.network { timers = started_for supi id at t.network.timers } }
taken (outs.Stop supi id) t = record t { network = record t.network { timers = stopped_for supi id t.network.timers } }

abbrev pub all_taken : List AmfOut → Turn → Turn
all_taken [] t = t
all_taken (out ∷ outs) t = all_taken outs (taken out t)

-- a turn at its start
abbrev pub begun : NetworkState → Turn
begun n = record { network = n; sends = []; passed = None }

-- the step of an input, from where the turn stands; a challenge that starts in it has this RAND
abbrev pub stepped : List ℕ → AmfInput → Turn → Result Stepped AmfRefusal
stepped rand input t = step_of t.network.amf t.network.home t.network.moment rand input

-- what a step came to; a refusal, which only a command gets, changes nothing
abbrev pub reached : Stepped → Turn → Turn
reached s t = record t { network = record t.network { amf = s.amf; home = s.home } }

abbrev pub onto : Result Stepped AmfRefusal → Turn → Turn
onto (Ok s) t = all_taken s.outs (reached s t)
onto (Err refusal) t = t

unfoldable pub turned : List ℕ → AmfInput → Turn → Turn
turned rand input t = onto (stepped rand input t) t

-- No refusal meets an input that is no command.
abbrev pub is_unrefused : AmfInput → Bool
is_unrefused (Authenticate supi) = false
is_unrefused (Deregister supi) = false
is_unrefused (Update supi) = false
is_unrefused (Uplink link fresh octets) = true
is_unrefused (Expired supi id) = true
is_unrefused (Fence supi) = true
is_unrefused (Sessions supi status) = true
is_unrefused (Down supi psi frame) = true
is_unrefused (Dropped link) = true
