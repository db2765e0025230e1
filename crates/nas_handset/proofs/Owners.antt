-- The timer of a procedure runs exactly while that procedure is open.
use Rattle.std.proofs.Common.{◌≡◌, ◌∙◌, ℕ, List, [], ◌∷◌, Result, Ok, Err, Bool, true, false, refl, subst}
use Rattle.nas_base.specs.Branches.{chosen}
use Rattle.nas_elements.specs.Status.{no_session}
use Rattle.nas_timers.specs.Timers as timers
use Rattle.nas_timers.specs.Timers.{started, stopped}
use Rattle.nas_timers.specs.declared.timer_id.TimerId.{TimerId}
use Rattle.nas_timers.specs.declared.timer_id.TimerId.TheVariants.{T3510, T3516, T3517, T3521, T3522, T3550, T3555, T3560, T3580, T3581, T3582, T3591, T3592}
use Rattle.nas_timers.proofs.DeadlineLaws.{deadline_of-started, deadline_of-stopped}
use Rattle.ue_mm.specs.Laws.{TimersHaveOwners, running_with, running_at, running_after, running_in, with_timer}
use Rattle.ue_mm.specs.Step.{Stepped, worked}
use Rattle.ue_mm.specs.declared.inputs.UeInput.{UeInput}
use Rattle.ue_mm.specs.declared.inputs.UeInput.TheVariants.{Expired}
use Rattle.ue_mm.specs.declared.outs.UeOut.{UeOut}
use Rattle.ue_mm.specs.declared.outs.UeOut.TheVariants as outs
use Rattle.ue_mm.proofs.StepLaws.{timers_have_owners}
use Rattle.nas_handset.specs.Owners.{HaveOwners, IsNoExpiry, running_of}
use Rattle.nas_handset.specs.State.{HandsetState}
use Rattle.nas_handset.specs.Ticks.{all_fired, fired, is_due, without}
use Rattle.nas_handset.specs.Handset.{StepsFirst}
use Rattle.nas_handset.specs.Turns.{Turn, all_taken, begun, onto, stepped, taken, turned}
use Rattle.ue_mm.specs.declared.inputs.StepRefusal.{StepRefusal}

-- what starting and stopping one timer does to the three
starts : (id : TimerId) (at : ℕ) (ts : List timers.Running) → running_of (started id at ts) ≡ with_timer id true (running_of ts)
starts T3510 at ts = rw (deadline_of-started T3510 T3510 at ts, deadline_of-started T3517 T3510 at ts, deadline_of-started T3521 T3510 at ts) refl
starts T3516 at ts = rw (deadline_of-started T3510 T3516 at ts, deadline_of-started T3517 T3516 at ts, deadline_of-started T3521 T3516 at ts) refl
starts T3517 at ts = rw (deadline_of-started T3510 T3517 at ts, deadline_of-started T3517 T3517 at ts, deadline_of-started T3521 T3517 at ts) refl
starts T3521 at ts = rw (deadline_of-started T3510 T3521 at ts, deadline_of-started T3517 T3521 at ts, deadline_of-started T3521 T3521 at ts) refl
starts T3522 at ts = rw (deadline_of-started T3510 T3522 at ts, deadline_of-started T3517 T3522 at ts, deadline_of-started T3521 T3522 at ts) refl
starts T3550 at ts = rw (deadline_of-started T3510 T3550 at ts, deadline_of-started T3517 T3550 at ts, deadline_of-started T3521 T3550 at ts) refl
starts T3555 at ts = rw (deadline_of-started T3510 T3555 at ts, deadline_of-started T3517 T3555 at ts, deadline_of-started T3521 T3555 at ts) refl
starts T3560 at ts = rw (deadline_of-started T3510 T3560 at ts, deadline_of-started T3517 T3560 at ts, deadline_of-started T3521 T3560 at ts) refl
starts (T3580 psi) at ts = rw (deadline_of-started T3510 (T3580 psi) at ts, deadline_of-started T3517 (T3580 psi) at ts, deadline_of-started T3521 (T3580 psi) at ts) refl
starts (T3581 psi) at ts = rw (deadline_of-started T3510 (T3581 psi) at ts, deadline_of-started T3517 (T3581 psi) at ts, deadline_of-started T3521 (T3581 psi) at ts) refl
starts (T3582 psi) at ts = rw (deadline_of-started T3510 (T3582 psi) at ts, deadline_of-started T3517 (T3582 psi) at ts, deadline_of-started T3521 (T3582 psi) at ts) refl
starts (T3591 psi) at ts = rw (deadline_of-started T3510 (T3591 psi) at ts, deadline_of-started T3517 (T3591 psi) at ts, deadline_of-started T3521 (T3591 psi) at ts) refl
starts (T3592 psi) at ts = rw (deadline_of-started T3510 (T3592 psi) at ts, deadline_of-started T3517 (T3592 psi) at ts, deadline_of-started T3521 (T3592 psi) at ts) refl

stops : (id : TimerId) (ts : List timers.Running) → running_of (stopped id ts) ≡ with_timer id false (running_of ts)
stops T3510 ts = rw (deadline_of-stopped T3510 T3510 ts, deadline_of-stopped T3517 T3510 ts, deadline_of-stopped T3521 T3510 ts) refl
stops T3516 ts = rw (deadline_of-stopped T3510 T3516 ts, deadline_of-stopped T3517 T3516 ts, deadline_of-stopped T3521 T3516 ts) refl
stops T3517 ts = rw (deadline_of-stopped T3510 T3517 ts, deadline_of-stopped T3517 T3517 ts, deadline_of-stopped T3521 T3517 ts) refl
stops T3521 ts = rw (deadline_of-stopped T3510 T3521 ts, deadline_of-stopped T3517 T3521 ts, deadline_of-stopped T3521 T3521 ts) refl
stops T3522 ts = rw (deadline_of-stopped T3510 T3522 ts, deadline_of-stopped T3517 T3522 ts, deadline_of-stopped T3521 T3522 ts) refl
stops T3550 ts = rw (deadline_of-stopped T3510 T3550 ts, deadline_of-stopped T3517 T3550 ts, deadline_of-stopped T3521 T3550 ts) refl
stops T3555 ts = rw (deadline_of-stopped T3510 T3555 ts, deadline_of-stopped T3517 T3555 ts, deadline_of-stopped T3521 T3555 ts) refl
stops T3560 ts = rw (deadline_of-stopped T3510 T3560 ts, deadline_of-stopped T3517 T3560 ts, deadline_of-stopped T3521 T3560 ts) refl
stops (T3580 psi) ts = rw (deadline_of-stopped T3510 (T3580 psi) ts, deadline_of-stopped T3517 (T3580 psi) ts, deadline_of-stopped T3521 (T3580 psi) ts) refl
stops (T3581 psi) ts = rw (deadline_of-stopped T3510 (T3581 psi) ts, deadline_of-stopped T3517 (T3581 psi) ts, deadline_of-stopped T3521 (T3581 psi) ts) refl
stops (T3582 psi) ts = rw (deadline_of-stopped T3510 (T3582 psi) ts, deadline_of-stopped T3517 (T3582 psi) ts, deadline_of-stopped T3521 (T3582 psi) ts) refl
stops (T3591 psi) ts = rw (deadline_of-stopped T3510 (T3591 psi) ts, deadline_of-stopped T3517 (T3591 psi) ts, deadline_of-stopped T3521 (T3591 psi) ts) refl
stops (T3592 psi) ts = rw (deadline_of-stopped T3510 (T3592 psi) ts, deadline_of-stopped T3517 (T3592 psi) ts, deadline_of-stopped T3521 (T3592 psi) ts) refl

taken_runs : (out : UeOut) (t : Turn) → running_of (taken out t).handset.timers ≡ running_with out (running_of t.handset.timers)
taken_runs (outs.Send fresh octets pass) t = refl
taken_runs (outs.Passed pass) t = refl
taken_runs (outs.Took context) t = refl
taken_runs (outs.ToSession octets) t = refl
taken_runs (outs.NotForwarded octets) t = refl
taken_runs outs.Abandon t = refl
taken_runs outs.Clear t = refl
taken_runs (outs.Keep sessions) t = refl
taken_runs (outs.Start id at) t = starts id at t.handset.timers
taken_runs (outs.Stop id) t = stops id t.handset.timers

taken_stays : (out : UeOut) (t : Turn) → (taken out t).handset.mm ≡ t.handset.mm
taken_stays (outs.Send fresh octets pass) t = refl
taken_stays (outs.Passed pass) t = refl
taken_stays (outs.Took context) t = refl
taken_stays (outs.ToSession octets) t = refl
taken_stays (outs.NotForwarded octets) t = refl
taken_stays outs.Abandon t = refl
taken_stays outs.Clear t = refl
taken_stays (outs.Keep sessions) t = refl
taken_stays (outs.Start id at) t = refl
taken_stays (outs.Stop id) t = refl

all_run : (list : List UeOut) (t : Turn) → running_of (all_taken list t).handset.timers ≡ running_after list (running_of t.handset.timers)
all_run [] t = refl
all_run (out ∷ list) t = all_run list (taken out t) ∙ rw (taken_runs out t) refl

all_stay : (list : List UeOut) (t : Turn) → (all_taken list t).handset.mm ≡ t.handset.mm
all_stay [] t = refl
all_stay (out ∷ list) t = all_stay list (taken out t) ∙ taken_stays out t

-- a step's outcome
onto_owned : (s : Stepped) (input : UeInput) (t : Turn) → TimersHaveOwners t.handset.mm input (Ok s) →
    running_of t.handset.timers ≡ running_at input (running_in t.handset.mm.phase) → HaveOwners (onto (Ok s) t).handset
onto_owned s input t law runs =
    let next : Turn = record t { handset = record t.handset { mm = s.state } } in
    rw (all_stay s.outs next) (all_run s.outs next ∙ rw runs law.running)

onto_by : (input : UeInput) (t : Turn) (r : Result Stepped StepRefusal) → stepped input t ≡ r →
    running_of t.handset.timers ≡ running_at input (running_in t.handset.mm.phase) →
    ((e : StepRefusal) → r ≡ Err e → ⊥) → HaveOwners (onto r t).handset
onto_by input t (Ok s) step runs unrefused =
    onto_owned s input t
    (subst (λ (x : Result Stepped StepRefusal). TimersHaveOwners t.handset.mm input x) step
    (timers_have_owners t.handset.mm t.handset.moment no_session input))
    runs
onto_by input t (Err e) step runs unrefused = absurd (unrefused e refl)

expired_owned : (id : TimerId) (t : Turn) → running_of t.handset.timers ≡ with_timer id false (running_in t.handset.mm.phase) →
    HaveOwners (turned (Expired id) t).handset
unfolding turned worked
expired_owned id t runs = onto_by (Expired id) t (stepped (Expired id) t) refl runs (λ e same. cc same)

-- a first step that isn't refused
first_by : (t : Turn) (input : UeInput) (r : Result Stepped StepRefusal) (h : HandsetState) → stepped input (begun h) ≡ r →
    StepsFirst (Ok t) r h → running_of h.timers ≡ running_at input (running_in h.mm.phase) → HaveOwners t.handset
first_by t input (Ok s) h step first runs =
    rw first (onto_owned s input (begun h)
    (subst (λ (x : Result Stepped StepRefusal). TimersHaveOwners h.mm input x) step (timers_have_owners h.mm h.moment no_session input))
    runs)
first_by t input (Err e) h step first runs = absurd first

pub first_owned : (t : Turn) (input : UeInput) (h : HandsetState) → IsNoExpiry input → StepsFirst (Ok t) (stepped input (begun h)) h →
    HaveOwners h → HaveOwners t.handset
first_owned t input h none first owned =
    first_by t input (stepped input (begun h)) h refl first (rw (none (running_in h.mm.phase)) owned)

-- timers that fire
fired_by : (id : TimerId) (t : Turn) (due : Bool) → HaveOwners t.handset →
    HaveOwners (chosen due (turned (Expired id) (record t { handset = without id t.handset })) t).handset
unfolding chosen
fired_by id t true owned = expired_owned id (record t { handset = without id t.handset }) (stops id t.handset.timers ∙ rw owned refl)
fired_by id t false owned = owned

pub all_fired_owned : (ids : List TimerId) (t : Turn) → HaveOwners t.handset → HaveOwners (all_fired ids t).handset
unfolding fired
all_fired_owned [] t owned = owned
all_fired_owned (id ∷ ids) t owned = all_fired_owned ids (fired id t) (fired_by id t (is_due id t.handset) owned)
