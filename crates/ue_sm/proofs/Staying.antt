-- What is kept where no transaction begins: the next identity stays, and what is open follows from what was.
use Rattle.std.proofs.Common.{◌≡◌, ◌≤◌, ◌⊎◌, ◌∙◌, ◌+◌, ◌-◌, inl, inr, ap, refl, subst, sym, arith, ℕ, zero, suc, Bool, true, false, List, Some, None, Result, Ok, Err}
use Rattle.std.proofs.lemmas.Bool.Decides.{nat_tests}
use Rattle.std.specs.Prelude.{◌==◌, nat_lt}
use Rattle.nas_base.proofs.Branching.{per_holds, when_holds}
use Rattle.nas_base.specs.Branches.{per}
use Rattle.nas_base.specs.Values.{is_psi}
use Rattle.nas_base.specs.declared.state_words.SmWord.TheVariants as words
use Rattle.nas_qos.specs.Applying.{all_applied}
use Rattle.nas_qos.specs.Operations.{Operation}
use Rattle.nas_qos.specs.Rules.{QosRule}
use Rattle.nas_qos.specs.declared.refusals.QosFault.{QosFault}
use Rattle.nas_timers.specs.declared.timer_id.TimerId.{TimerId}
use Rattle.nas_timers.specs.declared.timer_id.TimerId.TheVariants.{T3510, T3516, T3517, T3521, T3522, T3550, T3555, T3560, T3580, T3581, T3582, T3591, T3592}
use Rattle.ue_sm.proofs.Following.{Follows, abandoned_follows, none_follows, resent_follows, same_follows, unanswered_follows}
use Rattle.ue_sm.proofs.Identities.{psi_least}
use Rattle.ue_sm.proofs.Moves.{Moves, unmoved, carries, ends, keeps}
use Rattle.ue_sm.proofs.Places.{placed, placed_other}
use Rattle.ue_sm.proofs.Stops.{stopped_keeps}
use Rattle.ue_sm.specs.Cells.{awaiting_modification, awaiting_release, resent, transaction_of, unanswered}
use Rattle.ue_sm.specs.Commands.{commanded, establish, modify, modify_with, release, with_identity}
use Rattle.ue_sm.specs.Establishment.{established_by, establishment_request}
use Rattle.ue_sm.specs.Laws.{HaveNewIdentities, IsNew, WasOpen}
use Rattle.ue_sm.specs.Mobility.{all_left, concerns, leave_one, left_of}
use Rattle.ue_sm.specs.Modification.{modification_request, modified_by}
use Rattle.ue_sm.specs.Release.{release_request, released_by}
use Rattle.ue_sm.specs.State.{SmState, cell_of, each, every, put_cell}
use Rattle.ue_sm.specs.Timers.{awaited, expired, is_establishing, is_modifying, is_releasing, unheard}
use Rattle.ue_sm.specs.Transactions.{OpenTransaction}
use Rattle.ue_sm.specs.Work.{begun, cell, ended, put, request, send, start}
use Rattle.ue_sm.specs.declared.cells.Cell.{Cell}
use Rattle.ue_sm.specs.declared.cells.Cell.TheVariants.{Inactive, ActivePending, Active, ModificationPending, InactivePending}
use Rattle.ue_sm.specs.declared.inputs.SmCommand.{SmCommand}
use Rattle.ue_sm.specs.declared.inputs.SmCommand.TheVariants.{Establish, Modify, Release}
use Rattle.ue_sm.specs.declared.inputs.SmStepRefusal.{SmStepRefusal}
use Rattle.ue_sm.specs.declared.inputs.SmStepRefusal.TheVariants.{NoSuchSession, SessionThere, WrongState, Qos, NoPti}
use Rattle.ue_sm.specs.declared.mobility.Ending.{Ending}
use Rattle.ue_sm.specs.declared.mobility.Ending.TheVariants.{Abandon, Clear, Keep}
use Rattle.ue_sm.specs.declared.work.Work.{Work}

pub record Stays (s new : SmState) : Type 0 where
  pub next : new.next ≡ s.next
  pub follow : (psi : ℕ) → Follows (cell_of psi s) (cell_of psi new)

pub stays_same : (s : SmState) → Stays s s
stays_same s = record { next = refl; follow = λ psi. same_follows (cell_of psi s) }

-- one step behind another
followed : (a b c : Cell) → Follows a b → Follows b c → Follows a c
followed a b c one two t some =
    let middle : WasOpen b t = two t some in
    let first : WasOpen a middle.0 = one middle.0 middle.1 in
    (first.0, first.1, middle.2 ∙ first.2)

pub stays_then : (a b c : SmState) → Stays a b → Stays b c → Stays a c
stays_then a b c one two = record {
  next = two.next ∙ one.next;
  follow = λ psi. followed (cell_of psi a) (cell_of psi b) (cell_of psi c) (one.follow psi) (two.follow psi);
}

-- another session in a place
follows_at : (psi other : ℕ) (c : Cell) (s : SmState) → Follows (cell_of psi s) c
    → ((cell_of other s ≡ cell_of psi s) × (cell_of other (put_cell psi c s) ≡ c))
    ⊎ (cell_of other (put_cell psi c s) ≡ cell_of other s)
    → Follows (cell_of other s) (cell_of other (put_cell psi c s))
follows_at psi other c s follows (inl (here, is)) =
    subst (λ (x : Cell). Follows (cell_of other s) x) (sym is) (subst (λ (x : Cell). Follows x c) (sym here) follows)
follows_at psi other c s follows (inr e) =
    subst (λ (x : Cell). Follows (cell_of other s) x) (sym e) (same_follows (cell_of other s))

pub stays_put : (psi : ℕ) (c : Cell) (s : SmState) → Follows (cell_of psi s) c → Stays s (put_cell psi c s)
stays_put psi c s follows =
    record { next = refl; follow = λ other. follows_at psi other c s follows (placed psi other c s) }

-- the rows of one session
stays_ended : (n : ℕ) (c : Cell) (w : Work) → Follows (cell n w) c → Stays w.state (ended n c w).state
stays_ended n c w follows =
    subst (λ (s : SmState). Stays w.state (put_cell n c s)) (sym (stopped_keeps n w)) (stays_put n c w.state follows)

pub stays_moved : (n : ℕ) (w : Work) {new : Work} → Moves n w new → Stays w.state new.state
stays_moved n w unmoved = stays_same w.state
stays_moved n w (carries dnn frame moves) = stays_moved n w moves
stays_moved n w (ends {v} c follows none moves) =
    stays_then w.state v.state (ended n c v).state (stays_moved n w moves) (stays_ended n c v follows)
stays_moved n w (keeps {v} c follows same moves) =
    stays_then w.state v.state (put n c v).state (stays_moved n w moves) (stays_put n c v.state follows)

-- a timer that expired
unheard_stays : (n : ℕ) (id : TimerId) (t : OpenTransaction) (w : Work) → Stays w.state (unheard n id t w).state
unheard_stays n id t w =
    when_holds (λ (x : Work). Stays w.state x.state) (nat_lt t.sendings 5)
    (start id (send n t (put n (resent (cell n w)) w))) (put n (unanswered (cell n w)) w)
    (λ _. stays_put n (resent (cell n w)) w.state (resent_follows (cell n w)))
    (λ _. stays_put n (unanswered (cell n w)) w.state (unanswered_follows (cell n w)))

awaited_stays : (is_open : Bool) (n : ℕ) (id : TimerId) (w : Work) → Stays w.state (awaited is_open n id w).state
awaited_stays is_open n id w =
    when_holds (λ (x : Work). Stays w.state x.state) is_open
    (per (transaction_of (cell n w)) w (λ (t : OpenTransaction). unheard n id t w)) w
    (λ _. per_holds (λ (x : Work). Stays w.state x.state) (transaction_of (cell n w)) w (λ (t : OpenTransaction). unheard n id t w)
    (λ _. stays_same w.state) (λ t _. unheard_stays n id t w))
    (λ _. stays_same w.state)

pub expired_stays : (id : TimerId) (w : Work) → Stays w.state (expired id w).state
unfolding expired
expired_stays (T3580 n) w = awaited_stays (is_establishing (cell n w)) n (T3580 n) w
expired_stays (T3581 n) w = awaited_stays (is_modifying (cell n w)) n (T3581 n) w
expired_stays (T3582 n) w = awaited_stays (is_releasing (cell n w)) n (T3582 n) w
expired_stays T3510 w = stays_same w.state
expired_stays T3516 w = stays_same w.state
expired_stays T3517 w = stays_same w.state
expired_stays T3521 w = stays_same w.state
expired_stays T3522 w = stays_same w.state
expired_stays T3550 w = stays_same w.state
expired_stays T3555 w = stays_same w.state
expired_stays T3560 w = stays_same w.state
expired_stays (T3591 n) w = stays_same w.state
expired_stays (T3592 n) w = stays_same w.state

-- sessions that end
left_follows : (ending : Ending) (c : Cell) → Follows c (left_of ending c)
left_follows Abandon c = abandoned_follows c
left_follows Clear c = none_follows c Inactive refl
left_follows (Keep held) c = none_follows c Inactive refl

one_stays : (ending : Ending) (psi : ℕ) (s : SmState) → Stays s (leave_one ending psi s)
one_stays ending psi s =
    when_holds (λ (x : SmState). Stays s x) (concerns ending psi (cell_of psi s))
    (put_cell psi (left_of ending (cell_of psi s)) s) s
    (λ _. stays_put psi (left_of ending (cell_of psi s)) s (left_follows ending (cell_of psi s))) (λ _. stays_same s)

each_stays : (ending : Ending) (n : ℕ) (s : SmState) → Stays s (each (leave_one ending) n s)
unfolding each
each_stays ending zero s = stays_same s
each_stays ending (suc n) s =
    stays_then s (each (leave_one ending) n s) (leave_one ending (suc n) (each (leave_one ending) n s))
    (each_stays ending n s) (one_stays ending (suc n) (each (leave_one ending) n s))

pub all_left_stays : (ending : Ending) (s : SmState) → Stays s (all_left ending s)
unfolding every
all_left_stays ending s = each_stays ending 15 s

-- no identity is used where nothing begins
pub stays_new : (s new : SmState) → Stays s new → HaveNewIdentities s new
stays_new s new stays = record {
  rises = let e : new.next ≡ s.next = stays.next in omega arith;
  transactions = λ psi t some. inl (stays.follow psi t some);
  alone = λ psi other t u _ _ _ some _. inl (stays.follow psi t some);
}

-- a transaction begins
abbrev pub IsOpenedAs : OpenTransaction → Cell → Cell → Type 0
IsOpenedAs new before after = (t : OpenTransaction) → transaction_of after ≡ Some t → (WasOpen before t) ⊎ (t ≡ new)

opened_as : (psi other : ℕ) (c : Cell) (new t : OpenTransaction) (s : SmState) → new.request.pti ≡ s.next
    → cell_of other s ≡ cell_of psi s
    → (WasOpen (cell_of psi s) t) ⊎ (t ≡ new)
    → WasOpen (cell_of other s) t ⊎ IsNew s (put_cell psi c (record s { next = s.next + 1 })) t
opened_as psi other c new t s named here (inl was) = inl (subst (λ (x : Cell). WasOpen x t) (sym here) was)
opened_as psi other c new t s named here (inr e) = inr (ap (λ (x : OpenTransaction). x.request.pti) e ∙ named, refl)

opened_at : (psi other : ℕ) (c : Cell) (new : OpenTransaction) (s : SmState) → new.request.pti ≡ s.next
    → IsOpenedAs new (cell_of psi s) c
    → ((cell_of other s ≡ cell_of psi s) × (cell_of other (put_cell psi c (record s { next = s.next + 1 })) ≡ c))
    ⊎ (cell_of other (put_cell psi c (record s { next = s.next + 1 })) ≡ cell_of other s)
    → (t : OpenTransaction) → transaction_of (cell_of other (put_cell psi c (record s { next = s.next + 1 }))) ≡ Some t
    → WasOpen (cell_of other s) t ⊎ IsNew s (put_cell psi c (record s { next = s.next + 1 })) t
opened_at psi other c new s named opens (inl (here, is)) t some =
    opened_as psi other c new t s named here (opens t (ap transaction_of (sym is) ∙ some))
opened_at psi other c new s named opens (inr e) t some = inl (t, ap transaction_of (sym e) ∙ some, refl)

-- and begins in one place: of two sessions one has the transaction that it had
is_here : (n m : ℕ) → (n == m) ≡ true → n ≡ m
is_here n m e = grind (arith, nat_tests, e)

is_elsewhere : (n m : ℕ) → (n == m) ≡ false → ¬ (n ≡ m)
is_elsewhere n m e same = let clash : (n == m) ≡ true = grind (arith, nat_tests, same) in absurd (cc)

was_open : (psi other : ℕ) (c : Cell) (t : OpenTransaction) (s : SmState) → ¬ (other - 1 ≡ psi - 1)
    → transaction_of (cell_of other (put_cell psi c s)) ≡ Some t → WasOpen (cell_of other s) t
was_open psi other c t s differs some = (t, ap transaction_of (sym (placed_other psi other c s differs)) ∙ some, refl)

opened_alone : (at psi other : ℕ) (c : Cell) (s : SmState) (t u : OpenTransaction) → is_psi psi ≡ true
    → is_psi other ≡ true → ¬ (other ≡ psi)
    → transaction_of (cell_of psi (put_cell at c s)) ≡ Some t
    → transaction_of (cell_of other (put_cell at c s)) ≡ Some u
    → WasOpen (cell_of psi s) t ⊎ WasOpen (cell_of other s) u
opened_alone at psi other c s t u is other_is differs first second = by_place (psi - 1 == at - 1) refl
  where
    by_place : (here : Bool) → (psi - 1 == at - 1) ≡ here → WasOpen (cell_of psi s) t ⊎ WasOpen (cell_of other s) u
    by_place true e =
        let here : psi - 1 ≡ at - 1 = is_here (psi - 1) (at - 1) e in
        let least : 1 ≤ psi = psi_least psi is in
        let other_least : 1 ≤ other = psi_least other other_is in
        inr (was_open at other c u s (λ same. differs (omega arith)) second)
    by_place false e = inl (was_open at psi c t s (is_elsewhere (psi - 1) (at - 1) e) first)

begun_new : (psi : ℕ) (id : TimerId) (c : Cell) (new : OpenTransaction) (w : Work) → new.request.pti ≡ w.state.next
    → IsOpenedAs new (cell psi w) c
    → HaveNewIdentities w.state (begun psi id c new w).state
begun_new psi id c new w named opens = record {
  rises = omega arith;
  transactions = λ other t some.
      opened_at psi other c new w.state named opens (placed psi other c (record w.state { next = w.state.next + 1 })) t some;
  alone = λ one other t u. opened_alone psi one other c (record w.state { next = w.state.next + 1 }) t u;
}

new_opened : (before : Cell) (new t : OpenTransaction) → Some new ≡ Some t → (WasOpen before t) ⊎ (t ≡ new)
new_opened before new t some = inr (let e : t ≡ new = cc in e)

modification_opened : (new : OpenTransaction) (c : Cell) → IsOpenedAs new c (awaiting_modification new c)
modification_opened new Inactive t some = inl (same_follows Inactive t some)
modification_opened new (ActivePending u) t some = inl (same_follows (ActivePending u) t some)
modification_opened new (Active held) t some = new_opened (Active held) new t some
modification_opened new (ModificationPending held u) t some = inl (same_follows (ModificationPending held u) t some)
modification_opened new (InactivePending held u) t some = inl (same_follows (InactivePending held u) t some)

release_opened : (new : OpenTransaction) (c : Cell) → IsOpenedAs new c (awaiting_release new c)
release_opened new Inactive t some = inl (same_follows Inactive t some)
release_opened new (ActivePending u) t some = inl (same_follows (ActivePending u) t some)
release_opened new (Active held) t some = new_opened (Active held) new t some
release_opened new (ModificationPending held u) t some = inl (same_follows (ModificationPending held u) t some)
release_opened new (InactivePending held u) t some = inl (same_follows (InactivePending held u) t some)

-- the commands
abbrev pub IsNewWhereDone : Work → Result Work SmStepRefusal → Type 0
IsNewWhereDone w r = (new : Work) → r ≡ Ok new → HaveNewIdentities w.state new.state

done_new : (w done : Work) → HaveNewIdentities w.state done.state → IsNewWhereDone w (Ok done)
done_new w done holds new e =
    let same : done ≡ new = cc in subst (λ (x : Work). HaveNewIdentities w.state x.state) same holds

refused_new : (w : Work) (e : SmStepRefusal) → IsNewWhereDone w (Err e)
refused_new w e new clash = cc

identified_new : (w done : Work) → HaveNewIdentities w.state done.state → IsNewWhereDone w (with_identity w done)
identified_new w done holds =
    when_holds (λ (r : Result Work SmStepRefusal). IsNewWhereDone w r) (w.state.next == 255) (Err (NoPti 254)) (Ok done)
    (λ _. refused_new w (NoPti 254)) (λ _. done_new w done holds)

establish_new : (c : Cell) (psi kind : ℕ) (dnn : List ℕ) (w : Work) → IsNewWhereDone w (establish c psi kind dnn w)
unfolding established_by
establish_new Inactive psi kind dnn w =
    let new : OpenTransaction = request psi (Some dnn) (establishment_request kind) w in
    identified_new w (established_by psi kind dnn w)
    (begun_new psi (T3580 psi) (ActivePending new) new w refl (λ t some. new_opened (cell psi w) new t some))
establish_new (ActivePending t) psi kind dnn w = refused_new w (SessionThere psi)
establish_new (Active held) psi kind dnn w = refused_new w (SessionThere psi)
establish_new (ModificationPending held t) psi kind dnn w = refused_new w (SessionThere psi)
establish_new (InactivePending held t) psi kind dnn w = refused_new w (SessionThere psi)

modify_with_new : (rules : Result (List QosRule) QosFault) (psi : ℕ) (ops : List Operation) (w : Work)
    → IsNewWhereDone w (modify_with rules psi ops w)
unfolding modified_by
modify_with_new (Ok rules) psi ops w =
    let new : OpenTransaction = request psi None (modification_request ops) w in
    identified_new w (modified_by psi ops w)
    (begun_new psi (T3581 psi) (awaiting_modification new (cell psi w)) new w refl (modification_opened new (cell psi w)))
modify_with_new (Err fault) psi ops w = refused_new w (Qos fault)

modify_new : (c : Cell) (psi : ℕ) (ops : List Operation) (w : Work) → IsNewWhereDone w (modify c psi ops w)
modify_new Inactive psi ops w = refused_new w (NoSuchSession psi)
modify_new (ActivePending t) psi ops w = refused_new w (WrongState words.ActivePending)
modify_new (Active held) psi ops w = modify_with_new (all_applied ops held.session.rules) psi ops w
modify_new (ModificationPending held t) psi ops w = refused_new w (WrongState words.ModificationPending)
modify_new (InactivePending held t) psi ops w = refused_new w (WrongState words.InactivePending)

release_new : (c : Cell) (psi : ℕ) (w : Work) → IsNewWhereDone w (release c psi w)
unfolding released_by
release_new Inactive psi w = refused_new w (NoSuchSession psi)
release_new (ActivePending t) psi w = refused_new w (WrongState words.ActivePending)
release_new (Active held) psi w =
    let new : OpenTransaction = request psi None release_request w in
    identified_new w (released_by psi w)
    (begun_new psi (T3582 psi) (awaiting_release new (cell psi w)) new w refl (release_opened new (cell psi w)))
release_new (ModificationPending held t) psi w = refused_new w (WrongState words.ModificationPending)
release_new (InactivePending held t) psi w = refused_new w (WrongState words.InactivePending)

pub commanded_new : (command : SmCommand) (w : Work) → IsNewWhereDone w (commanded command w)
unfolding commanded
commanded_new (Establish psi kind dnn) w = establish_new (cell psi w) psi kind dnn w
commanded_new (Modify psi ops) w = modify_new (cell psi w) psi ops w
commanded_new (Release psi) w = release_new (cell psi w) psi w
