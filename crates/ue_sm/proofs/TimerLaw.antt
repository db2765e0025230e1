-- The timers of transactions run exactly while the transactions are open.
use Rattle.std.proofs.Common.{◌≡◌, ◌⊎◌, ◌∙◌, inl, inr, ap, refl, subst, sym, ℕ, Bool, true, false, [], length, Some, Result, Ok, Err}
use Rattle.nas_base.proofs.Branching.{when_false, when_true}
use Rattle.nas_base.specs.Values.{is_psi}
use Rattle.nas_timers.specs.Names.{is_name}
use Rattle.nas_timers.specs.declared.timer_id.TimerId.{TimerId}
use Rattle.nas_timers.specs.declared.timer_id.TimerId.TheVariants.{T3510, T3516, T3517, T3521, T3522, T3550, T3555, T3560, T3580, T3581, T3582, T3591, T3592}
use Rattle.std.specs.Prelude.{◌==◌}
use Rattle.std.proofs.lemmas.Bool.{eq-eqb}
use Rattle.ue_sm.proofs.Moves.{MovesSome, delivered_moves_some, not_forwarded_moves}
use Rattle.ue_sm.proofs.TimerCommands.{commanded_even}
use Rattle.ue_sm.proofs.TimerRows.{Even, differing, either, moves_even}
use Rattle.ue_sm.proofs.TimerSteps.{Requesting, awaited_other, awaited_own, left_even}
use Rattle.ue_sm.specs.Cells.{transaction_of}
use Rattle.ue_sm.specs.Commands.{commanded}
use Rattle.ue_sm.specs.Delivery.{delivered}
use Rattle.ue_sm.specs.Mobility.{left_by, not_forwarded, renewed}
use Rattle.ue_sm.specs.State.{SmState, cell_of}
use Rattle.ue_sm.specs.Step.{Stepped, finished, started, worked}
use Rattle.ue_sm.specs.TimerLaws.{Running, TimersRunWhileOpen, names_sessions, running_after, running_in, with_timer}
use Rattle.ue_sm.specs.Timers.{awaited, expired, is_establishing, is_modifying, is_releasing}
use Rattle.ue_sm.specs.Transactions.{OpenTransaction}
use Rattle.ue_sm.specs.Work.{cell}
use Rattle.ue_sm.specs.declared.cells.Cell.{Cell}
use Rattle.ue_sm.specs.declared.cells.Cell.TheVariants.{Inactive, ActivePending, Active, ModificationPending, InactivePending}
use Rattle.ue_sm.specs.declared.inputs.SmInput.{SmInput}
use Rattle.ue_sm.specs.declared.inputs.SmInput.TheVariants.{Command, Frame, NotForwarded, Expired, NewContext, Abandon, Clear, Keep}
use Rattle.ue_sm.specs.declared.inputs.SmStepRefusal.{SmStepRefusal}
use Rattle.ue_sm.specs.declared.mobility.Ending.TheVariants as ending
use Rattle.ue_sm.specs.declared.work.Work.{Work}

-- a timer that is the transaction's own, and one that isn't
abbrev pub IsOwn : ℕ → TimerId → Cell → Type 0
IsOwn psi id c = (Requesting psi id c) × ((t : OpenTransaction) × (transaction_of c ≡ Some t))

establishing_own : (psi : ℕ) (c : Cell) → is_establishing c ≡ true → IsOwn psi (T3580 psi) c
establishing_own psi Inactive is = cc
establishing_own psi (ActivePending t) is = (refl, (t, refl))
establishing_own psi (Active held) is = cc
establishing_own psi (ModificationPending held t) is = cc
establishing_own psi (InactivePending held t) is = cc

modifying_own : (psi : ℕ) (c : Cell) → is_modifying c ≡ true → IsOwn psi (T3581 psi) c
modifying_own psi Inactive is = cc
modifying_own psi (ActivePending t) is = cc
modifying_own psi (Active held) is = cc
modifying_own psi (ModificationPending held t) is = (refl, (t, refl))
modifying_own psi (InactivePending held t) is = cc

releasing_own : (psi : ℕ) (c : Cell) → is_releasing c ≡ true → IsOwn psi (T3582 psi) c
releasing_own psi Inactive is = cc
releasing_own psi (ActivePending t) is = cc
releasing_own psi (Active held) is = cc
releasing_own psi (ModificationPending held t) is = cc
releasing_own psi (InactivePending held t) is = (refl, (t, refl))

establishing_stale : (psi : ℕ) (c : Cell) → is_establishing c ≡ false
    → with_timer psi (T3580 psi) false (running_in c) ≡ running_in c
establishing_stale psi Inactive is =
    when_true (psi == psi) (running_in Inactive) (running_in Inactive) (eq-eqb psi psi refl)
establishing_stale psi (ActivePending t) is = cc
establishing_stale psi (Active held) is =
    when_true (psi == psi) (running_in (Active held)) (running_in (Active held)) (eq-eqb psi psi refl)
establishing_stale psi (ModificationPending held t) is =
    when_true (psi == psi) (running_in (ModificationPending held t)) (running_in (ModificationPending held t))
    (eq-eqb psi psi refl)
establishing_stale psi (InactivePending held t) is =
    when_true (psi == psi) (running_in (InactivePending held t)) (running_in (InactivePending held t))
    (eq-eqb psi psi refl)

modifying_stale : (psi : ℕ) (c : Cell) → is_modifying c ≡ false
    → with_timer psi (T3581 psi) false (running_in c) ≡ running_in c
modifying_stale psi Inactive is =
    when_true (psi == psi) (running_in Inactive) (running_in Inactive) (eq-eqb psi psi refl)
modifying_stale psi (ActivePending t) is =
    when_true (psi == psi) (running_in (ActivePending t)) (running_in (ActivePending t)) (eq-eqb psi psi refl)
modifying_stale psi (Active held) is =
    when_true (psi == psi) (running_in (Active held)) (running_in (Active held)) (eq-eqb psi psi refl)
modifying_stale psi (ModificationPending held t) is = cc
modifying_stale psi (InactivePending held t) is =
    when_true (psi == psi) (running_in (InactivePending held t)) (running_in (InactivePending held t))
    (eq-eqb psi psi refl)

releasing_stale : (psi : ℕ) (c : Cell) → is_releasing c ≡ false
    → with_timer psi (T3582 psi) false (running_in c) ≡ running_in c
releasing_stale psi Inactive is =
    when_true (psi == psi) (running_in Inactive) (running_in Inactive) (eq-eqb psi psi refl)
releasing_stale psi (ActivePending t) is =
    when_true (psi == psi) (running_in (ActivePending t)) (running_in (ActivePending t)) (eq-eqb psi psi refl)
releasing_stale psi (Active held) is =
    when_true (psi == psi) (running_in (Active held)) (running_in (Active held)) (eq-eqb psi psi refl)
releasing_stale psi (ModificationPending held t) is =
    when_true (psi == psi) (running_in (ModificationPending held t)) (running_in (ModificationPending held t))
    (eq-eqb psi psi refl)
releasing_stale psi (InactivePending held t) is = cc

-- of one session, as it is seen from any
abbrev pub EvenAfter : ℕ → TimerId → Work → Work → Type 0
EvenAfter psi id w new = Even psi (with_timer psi id false (running_in (cell psi w))) new

expired_even_by : (id : TimerId) (n psi : ℕ) (is_open : Bool) (w : Work) → is_psi n ≡ true → is_psi psi ≡ true
    → length w.state.cells ≡ 15 → w.outs ≡ []
    → (is_open ≡ true → IsOwn n id (cell n w))
    → (is_open ≡ false → with_timer n id false (running_in (cell n w)) ≡ running_in (cell n w))
    → (¬ (psi ≡ n) → (runs : Bool) (r : Running) → with_timer psi id runs r ≡ r)
    → (psi ≡ n) ⊎ (¬ (psi ≡ n)) → EvenAfter psi id w (awaited is_open n id w)
expired_even_by id n psi is_open w n_is is fifteen none own stale apart (inl e) =
    subst (λ (m : ℕ). EvenAfter m id w (awaited is_open n id w)) (sym e)
    (awaited_own is_open n id w n_is fifteen none own stale)
expired_even_by id n psi is_open w n_is is fifteen none own stale apart (inr differs) =
    awaited_other is_open n psi id w (with_timer psi id false (running_in (cell psi w))) n_is is differs (apart differs)
    (ap (λ outs. running_after psi outs (with_timer psi id false (running_in (cell psi w)))) none ∙ apart differs false (running_in (cell psi w)))

untouched : (psi : ℕ) (w : Work) → w.outs ≡ [] → Even psi (running_in (cell psi w)) w
untouched psi w none = ap (λ outs. running_after psi outs (running_in (cell psi w))) none

expired_even : (id : TimerId) (psi : ℕ) (w : Work) → is_name id ≡ true → is_psi psi ≡ true → length w.state.cells ≡ 15
    → w.outs ≡ [] → EvenAfter psi id w (expired id w)
unfolding expired
expired_even (T3580 n) psi w n_is is fifteen none =
    expired_even_by (T3580 n) n psi (is_establishing (cell n w)) w n_is is fifteen none (establishing_own n (cell n w))
    (establishing_stale n (cell n w))
    (λ differs runs r. when_false (n == psi) (record r { t3580 = runs }) r (differing n psi differs)) (either n psi)
expired_even (T3581 n) psi w n_is is fifteen none =
    expired_even_by (T3581 n) n psi (is_modifying (cell n w)) w n_is is fifteen none (modifying_own n (cell n w))
    (modifying_stale n (cell n w))
    (λ differs runs r. when_false (n == psi) (record r { t3581 = runs }) r (differing n psi differs)) (either n psi)
expired_even (T3582 n) psi w n_is is fifteen none =
    expired_even_by (T3582 n) n psi (is_releasing (cell n w)) w n_is is fifteen none (releasing_own n (cell n w))
    (releasing_stale n (cell n w))
    (λ differs runs r. when_false (n == psi) (record r { t3582 = runs }) r (differing n psi differs)) (either n psi)
expired_even T3510 psi w n_is is fifteen none = untouched psi w none
expired_even T3516 psi w n_is is fifteen none = untouched psi w none
expired_even T3517 psi w n_is is fifteen none = untouched psi w none
expired_even T3521 psi w n_is is fifteen none = untouched psi w none
expired_even T3522 psi w n_is is fifteen none = untouched psi w none
expired_even T3550 psi w n_is is fifteen none = untouched psi w none
expired_even T3555 psi w n_is is fifteen none = untouched psi w none
expired_even T3560 psi w n_is is fifteen none = untouched psi w none
expired_even (T3591 n) psi w n_is is fifteen none = untouched psi w none
expired_even (T3592 n) psi w n_is is fifteen none = untouched psi w none

-- what a row leaves is what its step leaves
abbrev pub EvenStep : ℕ → Running → Stepped → Type 0
EvenStep psi r new = running_after psi new.outs r ≡ running_in (cell_of psi new.state)

finished_even : (done : Result Work SmStepRefusal) (psi : ℕ) (r : Running) (new : Stepped)
    → ((w : Work) → done ≡ Ok w → Even psi r w) → finished done ≡ Ok new → EvenStep psi r new
finished_even (Ok w) psi r new even e =
    let stepped : Stepped = record { state = w.state; outs = w.outs } in
    let same : stepped ≡ new = cc in
    subst (λ (x : Stepped). EvenStep psi r x) same (even w refl)
finished_even (Err refusal) psi r new even e = cc

row_even : (psi : ℕ) (r : Running) (w : Work) (new : Stepped) → Even psi r w → finished (Ok w) ≡ Ok new
    → EvenStep psi r new
row_even psi r w new even e =
    finished_even (Ok w) psi r new (λ v f. let same : w ≡ v = cc in subst (λ (x : Work). Even psi r x) same even) e

some_even : (s : SmState) (now psi : ℕ) (w : Work) (new : Stepped) → is_psi psi ≡ true → length s.cells ≡ 15
    → MovesSome (started s now) w
    → finished (Ok w) ≡ Ok new → EvenStep psi (running_in (cell_of psi s)) new
some_even s now psi w new is fifteen some e =
    row_even psi (running_in (cell_of psi s)) w new
    (moves_even some.session psi (started s now) w (running_in (cell_of psi s)) some.named is fifteen refl some.moves) e

pub timers_run : (s : SmState) (now : ℕ) (input : SmInput) → length s.cells ≡ 15 → names_sessions input ≡ true
    → TimersRunWhileOpen s now input
unfolding worked renewed
timers_run s now (Command command) fifteen named psi new is e =
    finished_even (commanded command (started s now)) psi (running_in (cell_of psi s)) new
    (commanded_even command psi (running_in (cell_of psi s)) (started s now) named (record { named = is; fifteen = fifteen; even = refl })) e
timers_run s now (Frame octets) fifteen named psi new is e =
    some_even s now psi (delivered octets (started s now)) new is fifteen
    (delivered_moves_some octets (started s now)) e
timers_run s now (NotForwarded octets) fifteen named psi new is e =
    some_even s now psi (not_forwarded octets (started s now)) new is fifteen
    (not_forwarded_moves octets (started s now)) e
timers_run s now (Expired id) fifteen named psi new is e =
    row_even psi (with_timer psi id false (running_in (cell_of psi s))) (expired id (started s now)) new
    (expired_even id psi (started s now) named is fifteen refl) e
timers_run s now NewContext fifteen named psi new is e =
    row_even psi (running_in (cell_of psi s)) (renewed (started s now)) new refl e
timers_run s now Abandon fifteen named psi new is e =
    row_even psi (running_in (cell_of psi s)) (left_by ending.Abandon (started s now)) new
    (left_even ending.Abandon psi (running_in (cell_of psi s)) (started s now) is fifteen refl) e
timers_run s now Clear fifteen named psi new is e =
    row_even psi (running_in (cell_of psi s)) (left_by ending.Clear (started s now)) new
    (left_even ending.Clear psi (running_in (cell_of psi s)) (started s now) is fifteen refl) e
timers_run s now (Keep held) fifteen named psi new is e =
    row_even psi (running_in (cell_of psi s)) (left_by (ending.Keep held) (started s now)) new
    (left_even (ending.Keep held) psi (running_in (cell_of psi s)) (started s now) is fifteen refl) e
