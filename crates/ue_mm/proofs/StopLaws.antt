-- A timer that ran and doesn't run any more was stopped.
use Rattle.std.proofs.Common.{◌≡◌, refl, sym, ap, subst, ◌∙◌, ◌⊎◌, inl, inr, Bool, true, false, List, [], ◌∷◌, Some}
use Rattle.std.proofs.lemmas.List.Elements.{Contains-append_left, Contains-append_right, Contains-push}
use Rattle.std.specs.List.{Contains}
use Rattle.nas_timers.specs.declared.timer_id.TimerId.{TimerId}
use Rattle.nas_timers.specs.declared.timer_id.TimerId.TheVariants.{T3510, T3517, T3521}
use Rattle.ue_mm.specs.Laws.{Running, running_at, running_after, running_in, with_timer}
use Rattle.ue_mm.specs.State.{timer_of}
use Rattle.ue_mm.specs.declared.inputs.UeInput.{UeInput}
use Rattle.ue_mm.specs.declared.inputs.UeInput.TheVariants.{Command, Delivered, Expired, Dropped, Restart, Carry}
use Rattle.ue_mm.specs.declared.outs.UeOut.{UeOut}
use Rattle.ue_mm.specs.declared.outs.UeOut.TheVariants.{Send, Passed, Took, ToSession, NotForwarded, Abandon, Clear, Keep, Start, Stop}
use Rattle.ue_mm.specs.declared.procedures.Phase.{Phase}
use Rattle.ue_mm.specs.declared.procedures.Phase.TheVariants.{Deregistered, Registering, Registered, Serving, Deregistering}

-- whether a timer runs
abbrev runs : TimerId → Running → Bool
runs T3510 r = r.t3510
runs T3517 r = r.t3517
runs T3521 r = r.t3521
runs _ r = false

-- It runs on until it is stopped.
runs_on : (id other : TimerId) (r : Running) → runs id r ≡ true → runs id (with_timer other true r) ≡ true
runs_on T3510 T3510 r e = refl
runs_on T3510 other r e = e
runs_on T3517 T3517 r e = refl
runs_on T3517 other r e = e
runs_on T3521 T3521 r e = refl
runs_on T3521 other r e = e
runs_on id other r e = absurd (cc)

stopped_or_runs : (id other : TimerId) (r : Running) → runs id r ≡ true → (other ≡ id) ⊎ (runs id (with_timer other false r) ≡ true)
stopped_or_runs T3510 T3510 r e = inl refl
stopped_or_runs T3510 other r e = inr e
stopped_or_runs T3517 T3517 r e = inl refl
stopped_or_runs T3517 other r e = inr e
stopped_or_runs T3521 T3521 r e = inl refl
stopped_or_runs T3521 other r e = inr e
stopped_or_runs id other r e = absurd (cc)

behind : (out : UeOut) (outs : List UeOut) (x : UeOut) → Contains outs x → Contains (out ∷ outs) x
behind out outs x h = Contains-append_right (out ∷ []) outs x h

stop_or_behind : (id other : TimerId) (outs : List UeOut) (P : Type 0) → (other ≡ id) ⊎ P → (P → Contains outs (Stop id))
    → Contains (Stop other ∷ outs) (Stop id)
stop_or_behind id other outs P (inl same) there =
    Contains-append_left (Stop other ∷ []) outs (Stop id)
    (subst (λ (n : TimerId). Contains (Stop n ∷ []) (Stop id)) (sym same) (Contains-push [] (Stop id)))
stop_or_behind id other outs P (inr still) there = behind (Stop other) outs (Stop id) (there still)

is_stopped : (outs : List UeOut) (id : TimerId) (r : Running) → runs id r ≡ true → runs id (running_after outs r) ≡ false
    → Contains outs (Stop id)
is_stopped [] id r e f = let other : true ≡ false = sym e ∙ f in absurd (cc)
is_stopped (Start other at ∷ outs) id r e f = behind _ outs (Stop id) (is_stopped outs id _ (runs_on id other r e) f)
is_stopped (Stop other ∷ outs) id r e f =
    stop_or_behind id other outs (runs id (with_timer other false r) ≡ true) (stopped_or_runs id other r e)
    (λ still. is_stopped outs id (with_timer other false r) still f)
is_stopped (Send fresh octets pass ∷ outs) id r e f = behind _ outs (Stop id) (is_stopped outs id r e f)
is_stopped (Passed pass ∷ outs) id r e f = behind _ outs (Stop id) (is_stopped outs id r e f)
is_stopped (Took context ∷ outs) id r e f = behind _ outs (Stop id) (is_stopped outs id r e f)
is_stopped (ToSession octets ∷ outs) id r e f = behind _ outs (Stop id) (is_stopped outs id r e f)
is_stopped (NotForwarded octets ∷ outs) id r e f = behind _ outs (Stop id) (is_stopped outs id r e f)
is_stopped (Abandon ∷ outs) id r e f = behind _ outs (Stop id) (is_stopped outs id r e f)
is_stopped (Clear ∷ outs) id r e f = behind _ outs (Stop id) (is_stopped outs id r e f)
is_stopped (Keep held ∷ outs) id r e f = behind _ outs (Stop id) (is_stopped outs id r e f)

-- the timer of the procedure that is open runs, and no other does
runs_in : (phase : Phase) (id : TimerId) → timer_of phase ≡ Some id → runs id (running_in phase) ≡ true
runs_in Deregistered id e = absurd (cc)
runs_in (Registering p) T3510 e = refl
runs_in (Registering p) id e = absurd (cc)
runs_in Registered id e = absurd (cc)
runs_in (Serving p) T3517 e = refl
runs_in (Serving p) id e = absurd (cc)
runs_in (Deregistering p) T3521 e = refl
runs_in (Deregistering p) id e = absurd (cc)

no_other_runs : (phase : Phase) (id : TimerId) → ¬ (timer_of phase ≡ Some id) → runs id (running_in phase) ≡ false
no_other_runs (Registering p) T3510 other = absurd (other refl)
no_other_runs (Serving p) T3517 other = absurd (other refl)
no_other_runs (Deregistering p) T3521 other = absurd (other refl)
no_other_runs Deregistered id other = none id
  where
    none : (n : TimerId) → runs n (running_in Deregistered) ≡ false
    none T3510 = refl
    none T3517 = refl
    none T3521 = refl
    none _ = refl
no_other_runs Registered id other = none id
  where
    none : (n : TimerId) → runs n (running_in Registered) ≡ false
    none T3510 = refl
    none T3517 = refl
    none T3521 = refl
    none _ = refl
no_other_runs (Registering p) id other = refl
no_other_runs (Serving p) id other = refl
no_other_runs (Deregistering p) id other = refl

runs_at : (input : UeInput) (id : TimerId) (r : Running) → ¬ (input ≡ Expired id) → runs id r ≡ true → runs id (running_at input r) ≡ true
runs_at (Expired other) id r unlike e = among (stopped_or_runs id other r e)
  where
    among : (other ≡ id) ⊎ (runs id (with_timer other false r) ≡ true) → runs id (with_timer other false r) ≡ true
    among (inl same) = absurd (unlike (ap (λ (n : TimerId). Expired n) same))
    among (inr still) = still
runs_at (Command command) id r unlike e = e
runs_at (Delivered octets) id r unlike e = e
runs_at Dropped id r unlike e = e
runs_at Restart id r unlike e = e
runs_at (Carry psi dnn frame) id r unlike e = e

-- the timer of a procedure that a step leaves
pub left_is_stopped : (old new : Phase) (input : UeInput) (outs : List UeOut)
    → running_after outs (running_at input (running_in old)) ≡ running_in new
    → (id : TimerId) → timer_of old ≡ Some id → ¬ (timer_of new ≡ Some id) → ¬ (input ≡ Expired id) → Contains outs (Stop id)
left_is_stopped old new input outs h id ran other unlike =
    is_stopped outs id (running_at input (running_in old)) (runs_at input id (running_in old) unlike (runs_in old id ran))
    (ap (λ (r : Running). runs id r) h ∙ no_other_runs new id other)
