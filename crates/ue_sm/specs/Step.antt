-- One step of a handset's sessions: what comes in, by its row, and what goes out.
use Rattle.std.specs.Prelude.{◌≡◌, ℕ, List, [], Result, Ok, Err}
use Rattle.nas_base.specs.Outcomes.{RefusesAs}
use Rattle.ue_sm.specs.Commands.{commanded}
use Rattle.ue_sm.specs.Delivery.{delivered}
use Rattle.ue_sm.specs.Mobility.{left_by, not_forwarded, renewed}
use Rattle.ue_sm.specs.Outcome.{wants_memory}
use Rattle.ue_sm.specs.State.{SmState}
use Rattle.ue_sm.specs.Timers.{expired}
use Rattle.ue_sm.specs.declared.inputs.SmInput.{SmInput}
use Rattle.ue_sm.specs.declared.inputs.SmInput.TheVariants.{Command, Frame, NotForwarded, Expired, NewContext, Abandon, Clear, Keep}
use Rattle.ue_sm.specs.declared.inputs.SmStepRefusal.{SmStepRefusal}
use Rattle.ue_sm.specs.declared.mobility.Ending.TheVariants as ending
use Rattle.ue_sm.specs.declared.outs.SmOut.{SmOut}
use Rattle.ue_sm.specs.declared.work.Work.{Work}

-- a step at its start
abbrev pub started : SmState → ℕ → Work
started s now = record { moment = now; state = s; outs = [] }

-- the row of an input
unfoldable pub worked : SmInput → Work → Result Work SmStepRefusal
worked (Command command) w = commanded command w
worked (Frame octets) w = Ok (delivered octets w)
worked (NotForwarded octets) w = Ok (not_forwarded octets w)
worked (Expired id) w = Ok (expired id w)
worked NewContext w = Ok (renewed w)
worked Abandon w = Ok (left_by ending.Abandon w)
worked Clear w = Ok (left_by ending.Clear w)
worked (Keep held) w = Ok (left_by (ending.Keep held) w)

-- what is kept, and what goes out
pub record Stepped : Type 0 where
  pub state : SmState
  pub outs : List SmOut

abbrev pub finished : Result Work SmStepRefusal → Result Stepped SmStepRefusal
finished (Ok w) = Ok (record { state = w.state; outs = w.outs })
finished (Err e) = Err e

abbrev pub step_of : SmState → ℕ → SmInput → Result Stepped SmStepRefusal
step_of s now input = finished (worked input (started s now))

-- what a step answered: the new state and what goes out; or the state as it was, with the refusal
abbrev pub Steps : SmState → Result (SmState × List SmOut) (SmState × SmStepRefusal) → Result Stepped SmStepRefusal
    → Type 0
Steps old (Ok (new, outs)) step = step ≡ Ok (record { state = new; outs = outs })
Steps old (Err (new, refusal)) step = (new ≡ old) × RefusesAs wants_memory refusal step
