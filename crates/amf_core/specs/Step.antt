-- One step of an AMF: what comes in, by its row, and what goes out.
use Rattle.std.specs.Prelude.{◌≡◌, ℕ, List, [], Result, Ok, Err}
use Rattle.milenage.specs.Home.{HomeRecord}
use Rattle.nas_base.specs.Outcomes.{RefusesAs}
use Rattle.amf_core.specs.Commands.{authenticate, deregister, update}
use Rattle.amf_core.specs.Delivery.{brought_up}
use Rattle.amf_core.specs.Drafts.{DraftState}
use Rattle.amf_core.specs.Events.{carried_down, dropped, expired, fenced, sessions_told}
use Rattle.amf_core.specs.Framing.{Framed, framed_all}
use Rattle.amf_core.specs.Outcome.{wants_memory}
use Rattle.amf_core.specs.State.{AmfState}
use Rattle.amf_core.specs.declared.inputs.AmfInput.{AmfInput}
use Rattle.amf_core.specs.declared.inputs.AmfInput.TheVariants.{Uplink, Expired, Authenticate, Deregister, Update, Fence, Sessions, Down, Dropped}
use Rattle.amf_core.specs.declared.inputs.AmfRefusal.{AmfRefusal}
use Rattle.amf_core.specs.declared.outs.AmfOut.{AmfOut}
use Rattle.amf_core.specs.Work.{Work}

-- a step at its start
abbrev pub started : AmfState → List HomeRecord → ℕ → List ℕ → Work
started a home now rand = record { moment = now; rand = rand; amf = a; home = home; acts = [] }

-- the row of an input
unfoldable pub worked : AmfInput → Work → Result Work AmfRefusal
worked (Uplink link fresh octets) w = Ok (brought_up link fresh octets w)
worked (Expired supi id) w = Ok (expired supi id w)
worked (Authenticate supi) w = authenticate supi w
worked (Deregister supi) w = deregister supi w
worked (Update supi) w = update supi w
worked (Fence supi) w = Ok (fenced supi w)
worked (Sessions supi status) w = Ok (sessions_told supi status w)
worked (Down supi psi frame) w = Ok (carried_down supi psi frame w)
worked (Dropped link) w = Ok (dropped link w)

-- what is said is sent, and the counts that it takes are kept
pub record Stepped : Type 0 where
  pub amf : AmfState
  pub home : List HomeRecord
  pub outs : List AmfOut

abbrev pub framed_of : Work → Framed
framed_of w = framed_all w.acts (record { amf = w.amf; outs = [] })

unfoldable pub ended : Work → Stepped
ended w = record { amf = (framed_of w).amf; home = w.home; outs = (framed_of w).outs }

abbrev pub finished : Result Work AmfRefusal → Result Stepped AmfRefusal
finished (Ok w) = Ok (ended w)
finished (Err e) = Err e

abbrev pub step_of : AmfState → List HomeRecord → ℕ → List ℕ → AmfInput → Result Stepped AmfRefusal
step_of a home now rand input = finished (worked input (started a home now rand))

-- what a step answered: the new state and what goes out; or all is as it was, with the refusal
abbrev pub Kept : AmfState → AmfState → List HomeRecord → List HomeRecord → Type 0
Kept old new old_home new_home = (new ≡ old) × (new_home ≡ old_home)

abbrev pub Steps : AmfState → AmfState → List HomeRecord → List HomeRecord → Result (List AmfOut) AmfRefusal → Result Stepped AmfRefusal → Type 0
Steps old new old_home new_home (Ok outs) step = step ≡ Ok (record { amf = new; home = new_home; outs = outs })
Steps old new old_home new_home (Err refusal) step = Kept old new old_home new_home × RefusesAs wants_memory refusal step

-- the same on what steps before it left, which its owner takes over later
abbrev pub Follows : DraftState → Result (DraftState × List AmfOut) AmfRefusal → Result Stepped AmfRefusal → Type 0
Follows old (Ok (new, outs)) step = (step ≡ Ok (record { amf = new.amf; home = new.home; outs = outs })) × (new.before ≡ old.before)
Follows old (Err refusal) step = RefusesAs wants_memory refusal step
