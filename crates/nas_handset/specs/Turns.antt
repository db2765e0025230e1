-- What becomes of what goes out of a step.
use Rattle.std.specs.Prelude.{ℕ, Bool, List, [], ◌∷◌, ◌++◌, Option, Some, None, Result, Ok, Err}
use Rattle.nas_elements.specs.Status.{no_session}
use Rattle.nas_timers.specs.Timers.{started, stopped}
use Rattle.nas_security.specs.Contexts.{SecurityContext}
use Rattle.nas_security.specs.declared.sends.Pass.{Pass}
use Rattle.nas_security.specs.declared.sends.Send.{Send}
use Rattle.ue_mm.specs.Step.{Stepped, step_of}
use Rattle.ue_mm.specs.declared.inputs.StepRefusal.{StepRefusal}
use Rattle.ue_mm.specs.declared.inputs.UeInput.{UeInput}
use Rattle.ue_mm.specs.declared.outs.UeOut.{UeOut}
use Rattle.ue_mm.specs.declared.outs.UeOut.TheVariants as outs
use Rattle.nas_handset.specs.State.{HandsetState}

-- a handset while it takes its steps, with the messages that were sent, the check that was passed, and the context that was taken into
-- use
pub record Turn : Type 0 where
  pub handset : HandsetState
  pub sends : List Send
  pub passed : Option Pass
  pub took : Option SecurityContext

-- Messages are sent on link 1, timers start and stop, and what passed and was taken into use is told. What is for the sessions is for
-- nobody yet.
abbrev pub sent : Bool → List ℕ → Option Pass → Turn → Turn
sent fresh octets pass t = record t { sends = t.sends ++ record { link = 1; fresh = fresh; octets = octets; pass = pass } ∷ [] }

abbrev pub taken : UeOut → Turn → Turn
taken (outs.Send fresh octets pass) t = sent fresh octets pass t
taken (outs.Passed pass) t = record t { passed = Some pass }
taken (outs.Took context) t = record t { took = Some context }
taken (outs.Start id at) t = record t { handset = record t.handset { timers = started id at t.handset.timers } }
taken (outs.Stop id) t = record t { handset = record t.handset { timers = stopped id t.handset.timers } }
taken (outs.ToSession octets) t = t
taken (outs.NotForwarded octets) t = t
taken outs.Abandon t = t
taken outs.Clear t = t
taken (outs.Keep sessions) t = t

abbrev pub all_taken : List UeOut → Turn → Turn
all_taken [] t = t
all_taken (out ∷ outs) t = all_taken outs (taken out t)

-- a turn at its start
abbrev pub begun : HandsetState → Turn
begun h = record { handset = h; sends = []; passed = None; took = None }

-- the step of an input, from where the turn stands
abbrev pub stepped : UeInput → Turn → Result Stepped StepRefusal
stepped input t = step_of t.handset.mm t.handset.moment no_session input

-- what a step came to; a refusal, which only a command gets, changes nothing
abbrev pub onto : Result Stepped StepRefusal → Turn → Turn
onto (Ok s) t = all_taken s.outs (record t { handset = record t.handset { mm = s.state } })
onto (Err refusal) t = t

unfoldable pub turned : UeInput → Turn → Turn
turned input t = onto (stepped input t) t
