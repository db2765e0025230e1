-- One step of a handset's 5GMM: what comes in, by its row, and what goes out.
use Rattle.std.specs.Prelude.{◌≡◌, ℕ, Bool, List, [], Result, Ok, Err}
use Rattle.nas_base.specs.Outcomes.{RefusesAs}
use Rattle.ue_mm.specs.Commands.{commanded}
use Rattle.ue_mm.specs.Delivery.{delivered}
use Rattle.ue_mm.specs.Events.{dropped, expired, restarted}
use Rattle.ue_mm.specs.Framing.{framed_all}
use Rattle.ue_mm.specs.declared.framing.Framed.{Framed}
use Rattle.ue_mm.specs.Outcome.{wants_memory}
use Rattle.ue_mm.specs.State.{MmState, state_of}
use Rattle.ue_mm.specs.Transport.{carried}
use Rattle.ue_mm.specs.declared.inputs.StepRefusal.{StepRefusal}
use Rattle.ue_mm.specs.declared.inputs.UeInput.{UeInput}
use Rattle.ue_mm.specs.declared.inputs.UeInput.TheVariants.{Command, Delivered, Expired, Dropped, Restart, Carry}
use Rattle.ue_mm.specs.declared.outs.UeOut.{UeOut}
use Rattle.ue_mm.specs.declared.state.UeMm.{UeMm}
use Rattle.ue_mm.specs.declared.work.Work.{Work}

-- a step at its start
abbrev pub started : MmState → ℕ → List Bool → Work
started s now held = record { moment = now; held = held; common = s.common; phase = s.phase; acts = [] }

-- the row of an input
unfoldable pub worked : UeInput → Work → Result Work StepRefusal
worked (Command command) w = commanded command w
worked (Delivered octets) w = Ok (delivered octets w)
worked (Expired id) w = Ok (expired id w)
worked Dropped w = Ok (dropped w)
worked Restart w = Ok (restarted w)
worked (Carry psi dnn frame) w = Ok (carried psi dnn frame w)

-- what was said is sent, and the counts that it took are kept
pub record Stepped : Type 0 where
  pub state : MmState
  pub outs : List UeOut

abbrev pub framed_of : Work → Framed
framed_of w = framed_all w.common.config.supi w.acts (record { current = w.common.current; outs = [] })

unfoldable pub ended : Work → Stepped
ended w = record {
  state = record { common = record w.common { current = (framed_of w).current }; phase = w.phase };
  outs = (framed_of w).outs;
}

abbrev pub finished : Result Work StepRefusal → Result Stepped StepRefusal
finished (Ok w) = Ok (ended w)
finished (Err e) = Err e

abbrev pub step_of : MmState → ℕ → List Bool → UeInput → Result Stepped StepRefusal
step_of s now held input = finished (worked input (started s now held))

-- what a step answered: the new state and what goes out; or the state as it was, with the refusal
abbrev pub Steps : UeMm → Result (UeMm × List UeOut) (UeMm × StepRefusal) → Result Stepped StepRefusal → Type 0
Steps old (Ok (new, outs)) step = step ≡ Ok (record { state = state_of new; outs = outs })
Steps old (Err (new, refusal)) step = (new ≡ old) × RefusesAs wants_memory refusal step

-- the same for a state that its owner keeps
abbrev pub Follows : Result (UeMm × List UeOut) StepRefusal → Result Stepped StepRefusal → Type 0
Follows (Ok (new, outs)) step = step ≡ Ok (record { state = state_of new; outs = outs })
Follows (Err refusal) step = RefusesAs wants_memory refusal step
