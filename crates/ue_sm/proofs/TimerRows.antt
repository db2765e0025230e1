-- The timers of a session while a step goes on: those run that its transaction has.
use Rattle.std.proofs.Common.{◌≡◌, ◌≢◌, ◌≤◌, ◌⊎◌, ◌∙◌, ◌-◌, ◌++◌, inl, inr, ap, refl, subst, sym, arith, ℕ, Bool, true, false, List, [], ◌∷◌, length, Option, Some, None}
use Rattle.std.specs.Prelude.{◌==◌}
use Rattle.std.proofs.lemmas.Bool.{eq-eqb}
use Rattle.std.proofs.lemmas.Bool.Decides.{eqb_tells}
use Rattle.std.proofs.lemmas.List.{get_or-set_same, length-set}
use Rattle.nas_base.proofs.Branching.{when_false, when_true}
use Rattle.nas_base.specs.Branches.{per}
use Rattle.nas_base.specs.Values.{is_psi}
use Rattle.nas_timers.specs.declared.timer_id.TimerId.{TimerId}
use Rattle.nas_timers.specs.declared.timer_id.TimerId.TheVariants.{T3580, T3581, T3582}
use Rattle.ue_sm.proofs.EndingCells.{none_runs}
use Rattle.ue_sm.proofs.Identities.{psi_least, psi_most}
use Rattle.ue_sm.proofs.Moves.{Moves, unmoved, carries, ends, keeps}
use Rattle.ue_sm.proofs.Places.{placed_other}
use Rattle.ue_sm.proofs.Stops.{stopped_keeps}
use Rattle.ue_sm.specs.Cells.{timer_of, transaction_of}
use Rattle.ue_sm.specs.State.{SmState, cell_of, put_cell}
use Rattle.ue_sm.specs.TimerLaws.{Running, no_timer, running_after, running_in, running_with, with_timer}
use Rattle.ue_sm.specs.Work.{cell, ended, stop, stopped}
use Rattle.ue_sm.specs.declared.cells.Cell.{Cell}
use Rattle.ue_sm.specs.declared.cells.Cell.TheVariants.{Inactive, ActivePending, Active, ModificationPending, InactivePending}
use Rattle.ue_sm.specs.declared.outs.SmOut.{SmOut}
use Rattle.ue_sm.specs.declared.outs.SmOut.TheVariants.{Carry, Stop}
use Rattle.ue_sm.specs.declared.work.Work.{Work}

-- one more goes out
pub after_tell : (psi : ℕ) (out : SmOut) (outs : List SmOut) (r : Running)
    → running_after psi (outs ++ out ∷ []) r ≡ running_with psi out (running_after psi outs r)
after_tell psi out [] r = refl
after_tell psi out (x ∷ outs) r = after_tell psi out outs (running_with psi x r)

-- the timer of a session's transaction
pub own_timer_off : (psi : ℕ) (id : TimerId) (c : Cell) → timer_of psi c ≡ Some id
    → with_timer psi id false (running_in c) ≡ no_timer
own_timer_off psi id Inactive is = cc
own_timer_off psi id (ActivePending t) is =
    let e : T3580 psi ≡ id = let f : Some (T3580 psi) ≡ Some id = is in cc in
    subst (λ (i : TimerId). with_timer psi i false (running_in (ActivePending t)) ≡ no_timer) e
    (when_true (psi == psi) (record (running_in (ActivePending t)) { t3580 = false }) (running_in (ActivePending t)) (eq-eqb psi psi refl))
own_timer_off psi id (Active held) is = cc
own_timer_off psi id (ModificationPending held t) is =
    let e : T3581 psi ≡ id = let f : Some (T3581 psi) ≡ Some id = is in cc in
    subst (λ (i : TimerId). with_timer psi i false (running_in (ModificationPending held t)) ≡ no_timer) e
    (when_true (psi == psi) (record (running_in (ModificationPending held t)) { t3581 = false }) (running_in (ModificationPending held t)) (eq-eqb psi psi refl))
own_timer_off psi id (InactivePending held t) is =
    let e : T3582 psi ≡ id = let f : Some (T3582 psi) ≡ Some id = is in cc in
    subst (λ (i : TimerId). with_timer psi i false (running_in (InactivePending held t)) ≡ no_timer) e
    (when_true (psi == psi) (record (running_in (InactivePending held t)) { t3582 = false }) (running_in (InactivePending held t)) (eq-eqb psi psi refl))

pub own_timer_on : (psi : ℕ) (id : TimerId) (c : Cell) → timer_of psi c ≡ Some id
    → with_timer psi id true no_timer ≡ running_in c
own_timer_on psi id Inactive is = cc
own_timer_on psi id (ActivePending t) is =
    let e : T3580 psi ≡ id = let f : Some (T3580 psi) ≡ Some id = is in cc in
    subst (λ (i : TimerId). with_timer psi i true no_timer ≡ running_in (ActivePending t)) e
    (when_true (psi == psi) (record no_timer { t3580 = true }) no_timer (eq-eqb psi psi refl))
own_timer_on psi id (Active held) is = cc
own_timer_on psi id (ModificationPending held t) is =
    let e : T3581 psi ≡ id = let f : Some (T3581 psi) ≡ Some id = is in cc in
    subst (λ (i : TimerId). with_timer psi i true no_timer ≡ running_in (ModificationPending held t)) e
    (when_true (psi == psi) (record no_timer { t3581 = true }) no_timer (eq-eqb psi psi refl))
own_timer_on psi id (InactivePending held t) is =
    let e : T3582 psi ≡ id = let f : Some (T3582 psi) ≡ Some id = is in cc in
    subst (λ (i : TimerId). with_timer psi i true no_timer ≡ running_in (InactivePending held t)) e
    (when_true (psi == psi) (record no_timer { t3582 = true }) no_timer (eq-eqb psi psi refl))

-- that of another session
differing_by : (n psi : ℕ) → (((n == psi) ≡ true) × (n ≡ psi)) ⊎ (((n == psi) ≡ false) × (n ≢ psi)) → ¬ (psi ≡ n)
    → (n == psi) ≡ false
differing_by n psi (inl (test, e)) differs = absurd (differs (sym e))
differing_by n psi (inr (test, other)) differs = test

pub differing : (n psi : ℕ) → ¬ (psi ≡ n) → (n == psi) ≡ false
differing n psi differs = differing_by n psi (eqb_tells n psi) differs

pub other_timer : (n psi : ℕ) (id : TimerId) (c : Cell) (runs : Bool) (r : Running) → ¬ (psi ≡ n)
    → timer_of n c ≡ Some id → with_timer psi id runs r ≡ r
other_timer n psi id Inactive runs r differs is = cc
other_timer n psi id (ActivePending t) runs r differs is =
    let e : T3580 n ≡ id = let f : Some (T3580 n) ≡ Some id = is in cc in
    subst (λ (i : TimerId). with_timer psi i runs r ≡ r) e
    (when_false (n == psi) (record r { t3580 = runs }) r (differing n psi differs))
other_timer n psi id (Active held) runs r differs is = cc
other_timer n psi id (ModificationPending held t) runs r differs is =
    let e : T3581 n ≡ id = let f : Some (T3581 n) ≡ Some id = is in cc in
    subst (λ (i : TimerId). with_timer psi i runs r ≡ r) e
    (when_false (n == psi) (record r { t3581 = runs }) r (differing n psi differs))
other_timer n psi id (InactivePending held t) runs r differs is =
    let e : T3582 n ≡ id = let f : Some (T3582 n) ≡ Some id = is in cc in
    subst (λ (i : TimerId). with_timer psi i runs r ≡ r) e
    (when_false (n == psi) (record r { t3582 = runs }) r (differing n psi differs))

-- a session whose timer is stopped
stopped_by : (psi : ℕ) (o : Option TimerId) (w : Work) (r now : Running)
    → (o ≡ None → running_after psi w.outs r ≡ now)
    → ((id : TimerId) → o ≡ Some id → with_timer psi id false (running_after psi w.outs r) ≡ now)
    → running_after psi (per o w (λ (id : TimerId). stop id w)).outs r ≡ now
unfolding per
stopped_by psi None w r now none some = none refl
stopped_by psi (Some id) w r now none some = after_tell psi (Stop id) w.outs r ∙ some id refl

timer_none : (psi : ℕ) (c : Cell) → timer_of psi c ≡ None → running_in c ≡ no_timer
timer_none psi Inactive none = refl
timer_none psi (ActivePending t) none = cc
timer_none psi (Active held) none = refl
timer_none psi (ModificationPending held t) none = cc
timer_none psi (InactivePending held t) none = cc

pub own_stopped : (psi : ℕ) (w : Work) (r : Running) → running_after psi w.outs r ≡ running_in (cell psi w)
    → running_after psi (stopped psi w).outs r ≡ no_timer
own_stopped psi w r even =
    stopped_by psi (timer_of psi (cell psi w)) w r no_timer
    (λ none. even ∙ timer_none psi (cell psi w) none)
    (λ id some. ap (with_timer psi id false) even ∙ own_timer_off psi id (cell psi w) some)

pub other_stopped : (n psi : ℕ) (w : Work) (r : Running) → ¬ (psi ≡ n)
    → running_after psi (stopped n w).outs r ≡ running_after psi w.outs r
other_stopped n psi w r differs =
    stopped_by psi (timer_of n (cell n w)) w r (running_after psi w.outs r)
    (λ none. refl)
    (λ id some. other_timer n psi id (cell n w) false (running_after psi w.outs r) differs some)

-- where the session stands
pub put_here : (psi : ℕ) (c : Cell) (s : SmState) → is_psi psi ≡ true → length s.cells ≡ 15
    → cell_of psi (put_cell psi c s) ≡ c
put_here psi c s is fifteen =
    let one : 1 ≤ psi = psi_least psi is in
    let most : psi ≤ 15 = psi_most psi is in
    get_or-set_same s.cells (psi - 1) c Inactive (omega arith)

pub put_elsewhere : (n psi : ℕ) (c : Cell) (s : SmState) → is_psi n ≡ true → is_psi psi ≡ true → ¬ (psi ≡ n)
    → cell_of psi (put_cell n c s) ≡ cell_of psi s
put_elsewhere n psi c s n_is is differs =
    let one : 1 ≤ n = psi_least n n_is in
    let two : 1 ≤ psi = psi_least psi is in
    placed_other n psi c s (λ e. differs (omega arith))

pub put_fifteen : (n : ℕ) (c : Cell) (s : SmState) → length s.cells ≡ 15 → length (put_cell n c s).cells ≡ 15
put_fifteen n c s fifteen = length-set s.cells (n - 1) c ∙ fifteen

pub moved_fifteen : (n : ℕ) (w : Work) {new : Work} → length w.state.cells ≡ 15 → Moves n w new
    → length new.state.cells ≡ 15
moved_fifteen n w fifteen unmoved = fifteen
moved_fifteen n w fifteen (carries dnn frame moves) = moved_fifteen n w fifteen moves
moved_fifteen n w fifteen (ends {v} c follows none moves) =
    put_fifteen n c (stopped n v).state
    (ap (λ (s : SmState). length s.cells) (stopped_keeps n v) ∙ moved_fifteen n w fifteen moves)
moved_fifteen n w fifteen (keeps {v} c follows same moves) = put_fifteen n c v.state (moved_fifteen n w fifteen moves)

-- What runs is what the transaction has: before a row of a session, so after it, for this session and for every other.
abbrev pub Even : ℕ → Running → Work → Type 0
Even psi r w = running_after psi w.outs r ≡ running_in (cell psi w)

own_ended : (psi : ℕ) (c : Cell) (w : Work) (r : Running) → is_psi psi ≡ true → length w.state.cells ≡ 15
    → transaction_of c ≡ None → Even psi r w → Even psi r (ended psi c w)
own_ended psi c w r is fifteen none even =
    own_stopped psi w r even ∙ sym (none_runs c none)
    ∙ ap running_in
    (sym (put_here psi c (stopped psi w).state is (ap (λ (s : SmState). length s.cells) (stopped_keeps psi w) ∙ fifteen)))

other_ended : (n psi : ℕ) (c : Cell) (w : Work) (r : Running) → is_psi n ≡ true → is_psi psi ≡ true → ¬ (psi ≡ n)
    → Even psi r w → Even psi r (ended n c w)
other_ended n psi c w r n_is is differs even =
    other_stopped n psi w r differs ∙ even
    ∙ ap (λ (s : SmState). running_in (cell_of psi s)) (sym (stopped_keeps n w))
    ∙ ap running_in (sym (put_elsewhere n psi c (stopped n w).state n_is is differs))

own_even : (psi : ℕ) (w : Work) {new : Work} (r : Running) → is_psi psi ≡ true → length w.state.cells ≡ 15
    → Even psi r w → Moves psi w new → Even psi r new
own_even psi w r is fifteen even unmoved = even
own_even psi w r is fifteen even (carries {v} dnn frame moves) =
    after_tell psi (Carry psi dnn frame) v.outs r ∙ own_even psi w r is fifteen even moves
own_even psi w r is fifteen even (ends {v} c follows none moves) =
    own_ended psi c v r is (moved_fifteen psi w fifteen moves) none (own_even psi w r is fifteen even moves)
own_even psi w r is fifteen even (keeps {v} c follows same moves) =
    own_even psi w r is fifteen even moves ∙ sym same
    ∙ ap running_in (sym (put_here psi c v.state is (moved_fifteen psi w fifteen moves)))

other_even : (n psi : ℕ) (w : Work) {new : Work} (r : Running) → is_psi n ≡ true → is_psi psi ≡ true → ¬ (psi ≡ n)
    → Even psi r w → Moves n w new → Even psi r new
other_even n psi w r n_is is differs even unmoved = even
other_even n psi w r n_is is differs even (carries {v} dnn frame moves) =
    after_tell psi (Carry n dnn frame) v.outs r ∙ other_even n psi w r n_is is differs even moves
other_even n psi w r n_is is differs even (ends {v} c follows none moves) =
    other_ended n psi c v r n_is is differs (other_even n psi w r n_is is differs even moves)
other_even n psi w r n_is is differs even (keeps {v} c follows same moves) =
    other_even n psi w r n_is is differs even moves
    ∙ ap running_in (sym (put_elsewhere n psi c v.state n_is is differs))

-- one of the two
either_by : (n psi : ℕ) → (((psi == n) ≡ true) × (psi ≡ n)) ⊎ (((psi == n) ≡ false) × (psi ≢ n))
    → (psi ≡ n) ⊎ (¬ (psi ≡ n))
either_by n psi (inl (test, e)) = inl e
either_by n psi (inr (test, other)) = inr other

pub either : (n psi : ℕ) → (psi ≡ n) ⊎ (¬ (psi ≡ n))
either n psi = either_by n psi (eqb_tells psi n)

moves_even_by : (n psi : ℕ) (w new : Work) (r : Running) → is_psi n ≡ true → is_psi psi ≡ true
    → length w.state.cells ≡ 15
    → Even psi r w → Moves n w new → (psi ≡ n) ⊎ (¬ (psi ≡ n)) → Even psi r new
moves_even_by n psi w new r n_is is fifteen even moves (inl e) =
    own_even psi w r is fifteen even (subst (λ (m : ℕ). Moves m w new) (sym e) moves)
moves_even_by n psi w new r n_is is fifteen even moves (inr differs) = other_even n psi w r n_is is differs even moves

pub moves_even : (n psi : ℕ) (w new : Work) (r : Running) → is_psi n ≡ true → is_psi psi ≡ true
    → length w.state.cells ≡ 15
    → Even psi r w → Moves n w new → Even psi r new
moves_even n psi w new r n_is is fifteen even moves =
    moves_even_by n psi w new r n_is is fifteen even moves (either n psi)
