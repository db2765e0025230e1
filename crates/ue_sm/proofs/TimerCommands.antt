-- The timers of a session behind a command.
use Rattle.std.proofs.Common.{◌≡◌, refl, subst, sym, ap, ℕ, List, length, true, Some, None, Result, Ok, Err}
use Rattle.std.specs.Prelude.{◌==◌}
use Rattle.nas_base.proofs.Branching.{when_holds}
use Rattle.nas_base.specs.Values.{is_psi}
use Rattle.nas_base.specs.declared.state_words.SmWord.TheVariants as words
use Rattle.nas_qos.specs.Applying.{all_applied}
use Rattle.nas_qos.specs.Operations.{Operation}
use Rattle.nas_qos.specs.Rules.{QosRule}
use Rattle.nas_qos.specs.declared.refusals.QosFault.{QosFault}
use Rattle.nas_timers.specs.declared.timer_id.TimerId.TheVariants.{T3580, T3581, T3582}
use Rattle.ue_sm.proofs.TimerRows.{Even}
use Rattle.ue_sm.proofs.TimerSteps.{begun_even}
use Rattle.ue_sm.specs.Cells.{awaiting_modification, awaiting_release, timer_of}
use Rattle.ue_sm.specs.Commands.{commanded, establish, modify, modify_with, release, with_identity}
use Rattle.ue_sm.specs.Establishment.{established_by, establishment_request}
use Rattle.ue_sm.specs.Modification.{modification_request, modified_by}
use Rattle.ue_sm.specs.Release.{release_request, released_by}
use Rattle.ue_sm.specs.TimerLaws.{Running, names_session, running_in}
use Rattle.ue_sm.specs.Transactions.{OpenTransaction}
use Rattle.ue_sm.specs.Work.{cell, request}
use Rattle.ue_sm.specs.declared.cells.Cell.{Cell}
use Rattle.ue_sm.specs.declared.cells.Cell.TheVariants.{Inactive, ActivePending, Active, ModificationPending, InactivePending}
use Rattle.ue_sm.specs.declared.cells.Held.{Held}
use Rattle.ue_sm.specs.declared.inputs.SmCommand.{SmCommand}
use Rattle.ue_sm.specs.declared.inputs.SmCommand.TheVariants.{Establish, Modify, Release}
use Rattle.ue_sm.specs.declared.inputs.SmStepRefusal.{SmStepRefusal}
use Rattle.ue_sm.specs.declared.inputs.SmStepRefusal.TheVariants.{NoSuchSession, SessionThere, WrongState, Qos, NoPti}
use Rattle.ue_sm.specs.declared.work.Work.{Work}

abbrev pub EvenWhereDone : ℕ → Running → Result Work SmStepRefusal → Type 0
EvenWhereDone psi r done = (new : Work) → done ≡ Ok new → Even psi r new

done_even : (psi : ℕ) (r : Running) (w : Work) → Even psi r w → EvenWhereDone psi r (Ok w)
done_even psi r w even new e = let same : w ≡ new = cc in subst (λ (x : Work). Even psi r x) same even

refused_even : (psi : ℕ) (r : Running) (e : SmStepRefusal) → EvenWhereDone psi r (Err e)
refused_even psi r e new clash = cc

identified_even : (psi : ℕ) (r : Running) (w done : Work) → Even psi r done → EvenWhereDone psi r (with_identity w done)
identified_even psi r w done even =
    when_holds (λ (x : Result Work SmStepRefusal). EvenWhereDone psi r x) (w.state.next == 255) (Err (NoPti 254))
    (Ok done)
    (λ _. refused_even psi r (NoPti 254)) (λ _. done_even psi r done even)

-- a step before anything went out
pub record Ready (psi : ℕ) (r : Running) (w : Work) : Type 0 where
  pub named : is_psi psi ≡ true
  pub fifteen : length w.state.cells ≡ 15
  pub even : Even psi r w

establish_even : (c : Cell) (n kind : ℕ) (dnn : List ℕ) (psi : ℕ) (r : Running) (w : Work) → c ≡ cell n w
    → is_psi n ≡ true → Ready psi r w
    → EvenWhereDone psi r (establish c n kind dnn w)
unfolding established_by
establish_even Inactive n kind dnn psi r w is n_is ready =
    let new : OpenTransaction = request n (Some dnn) (establishment_request kind) w in
    identified_even psi r w (established_by n kind dnn w)
    (begun_even n psi (T3580 n) (ActivePending new) new w r n_is ready.named ready.fifteen refl (ap running_in (sym is)) ready.even)
establish_even (ActivePending t) n kind dnn psi r w is n_is ready = refused_even psi r (SessionThere n)
establish_even (Active held) n kind dnn psi r w is n_is ready = refused_even psi r (SessionThere n)
establish_even (ModificationPending held t) n kind dnn psi r w is n_is ready = refused_even psi r (SessionThere n)
establish_even (InactivePending held t) n kind dnn psi r w is n_is ready = refused_even psi r (SessionThere n)

modify_with_even : (rules : Result (List QosRule) QosFault) (n : ℕ) (ops : List Operation) (held : Held) (psi : ℕ) (r : Running) (w : Work)
    → Active held ≡ cell n w → is_psi n ≡ true → Ready psi r w → EvenWhereDone psi r (modify_with rules n ops w)
unfolding modified_by
modify_with_even (Ok rules) n ops held psi r w is n_is ready =
    let new : OpenTransaction = request n None (modification_request ops) w in
    identified_even psi r w (modified_by n ops w)
    (begun_even n psi (T3581 n) (awaiting_modification new (cell n w)) new w r n_is ready.named ready.fifteen
    (ap (λ (c : Cell). timer_of n (awaiting_modification new c)) (sym is)) (ap running_in (sym is)) ready.even)
modify_with_even (Err fault) n ops held psi r w is n_is ready = refused_even psi r (Qos fault)

modify_even : (c : Cell) (n : ℕ) (ops : List Operation) (psi : ℕ) (r : Running) (w : Work) → c ≡ cell n w
    → is_psi n ≡ true → Ready psi r w
    → EvenWhereDone psi r (modify c n ops w)
modify_even Inactive n ops psi r w is n_is ready = refused_even psi r (NoSuchSession n)
modify_even (ActivePending t) n ops psi r w is n_is ready = refused_even psi r (WrongState words.ActivePending)
modify_even (Active held) n ops psi r w is n_is ready =
    modify_with_even (all_applied ops held.session.rules) n ops held psi r w is n_is ready
modify_even (ModificationPending held t) n ops psi r w is n_is ready =
    refused_even psi r (WrongState words.ModificationPending)
modify_even (InactivePending held t) n ops psi r w is n_is ready = refused_even psi r (WrongState words.InactivePending)

release_even : (c : Cell) (n psi : ℕ) (r : Running) (w : Work) → c ≡ cell n w → is_psi n ≡ true → Ready psi r w
    → EvenWhereDone psi r (release c n w)
unfolding released_by
release_even Inactive n psi r w is n_is ready = refused_even psi r (NoSuchSession n)
release_even (ActivePending t) n psi r w is n_is ready = refused_even psi r (WrongState words.ActivePending)
release_even (Active held) n psi r w is n_is ready =
    let new : OpenTransaction = request n None release_request w in
    identified_even psi r w (released_by n w)
    (begun_even n psi (T3582 n) (awaiting_release new (cell n w)) new w r n_is ready.named ready.fifteen
    (ap (λ (c : Cell). timer_of n (awaiting_release new c)) (sym is)) (ap running_in (sym is)) ready.even)
release_even (ModificationPending held t) n psi r w is n_is ready =
    refused_even psi r (WrongState words.ModificationPending)
release_even (InactivePending held t) n psi r w is n_is ready = refused_even psi r (WrongState words.InactivePending)

pub commanded_even : (command : SmCommand) (psi : ℕ) (r : Running) (w : Work) → names_session command ≡ true
    → Ready psi r w
    → EvenWhereDone psi r (commanded command w)
unfolding commanded
commanded_even (Establish n kind dnn) psi r w named ready =
    establish_even (cell n w) n kind dnn psi r w refl named ready
commanded_even (Modify n ops) psi r w named ready = modify_even (cell n w) n ops psi r w refl named ready
commanded_even (Release n) psi r w named ready = release_even (cell n w) n psi r w refl named ready
