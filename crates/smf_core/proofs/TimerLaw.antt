-- The timers of commands run exactly while the commands are open.
use Rattle.std.proofs.Common.{◌≡◌, inr, refl, sym, ◌∙◌, ap, subst, Bool, true, false, ℕ, ◌==◌, List, [], Option, Some, None, Result, Ok, Err}
use Rattle.nas_base.proofs.Branching.{per_holds, when_false, when_holds}
use Rattle.nas_base.specs.Values.{is_psi}
use Rattle.nas_timers.specs.declared.timer_id.TimerId.{TimerId}
use Rattle.nas_timers.specs.declared.timer_id.TimerId.TheVariants.{T3510, T3516, T3517, T3521, T3522, T3550, T3555, T3560, T3580, T3581, T3582, T3591, T3592}
use Rattle.smf_core.proofs.InputRows.{Goes, may_change, named_by, worked_goes}
use Rattle.smf_core.proofs.Moves.{moved_supi}
use Rattle.smf_core.proofs.SessionsKept.{has_own, sessions_stand}
use Rattle.smf_core.proofs.ShiftedRows.{sent_again}
use Rattle.smf_core.proofs.Shifts.{Shifted, Stands, shifted_moved}
use Rattle.smf_core.proofs.TimerRuns.{Runs, either, first_own, given_own, releasing_own, removed_own, running_now, second_own, shifted_runs, stopped, stopped_again}
use Rattle.smf_core.specs.Kept.{timer_of}
use Rattle.smf_core.specs.Laws.{names_one}
use Rattle.smf_core.specs.Release.{releasing, removed, removed_of}
use Rattle.smf_core.specs.Sessions.{AreSessions, HasOwnCommand, IsOpenIn}
use Rattle.smf_core.specs.State.{SmfState, cell_of}
use Rattle.smf_core.specs.Step.{Stepped, ended, finished, started, step_of, worked}
use Rattle.smf_core.specs.TimerLaws.{Running, TimersRunWhileOpen, no_timer, running_after, running_in, running_of, with_timer}
use Rattle.smf_core.specs.Timers.{again, expired, is_left, modification_expired, of_modifying, of_releasing, release_expired}
use Rattle.smf_core.specs.Work.{Working, give_out, held}
use Rattle.smf_core.specs.declared.held.Command.{Command}
use Rattle.smf_core.specs.declared.held.Held.{Held}
use Rattle.smf_core.specs.declared.held.Modification.{Modification}
use Rattle.smf_core.specs.declared.held.Phase.{Phase}
use Rattle.smf_core.specs.declared.held.Phase.TheVariants.{Active, Modifying, Settling, Releasing}
use Rattle.smf_core.specs.declared.inputs.SmfInput.{SmfInput}
use Rattle.smf_core.specs.declared.inputs.SmfInput.TheVariants.{Frame, Switched, ReleaseAll, KeepOnly, Expired, Modify, Release}
use Rattle.smf_core.specs.declared.inputs.SmfRefusal.{SmfRefusal}

-- what a step leaves
abbrev Left : SmfState → List ℕ → ℕ → Running → Stepped → Type 0
Left smf supi q r new = running_after q new.outs r ≡ running_of (cell_of supi q new.smf).held

left_by : (smf : SmfState) (now : ℕ) (supi : List ℕ) (ok : ℕ → Bool) (q : ℕ) (r : Running) (v : Working) (new : Stepped)
    → Shifted ok (started smf now supi) v → Runs q r v → ended v ≡ new → Left smf supi q r new
left_by smf now supi ok q r v new m runs e =
    let same : v.supi ≡ supi = moved_supi ok (started smf now supi) v (shifted_moved ok (started smf now supi) v m) in
    subst (Left smf supi q r) e (runs ∙ ap (λ s. running_of (cell_of s q v.smf).held) same)

finished_left : (smf : SmfState) (now : ℕ) (supi : List ℕ) (ok : ℕ → Bool) (q : ℕ) (r : Running) (row : Result Working SmfRefusal) (new : Stepped)
    → Goes ok (started smf now supi) row
    → ((v : Working) → Shifted ok (started smf now supi) v → row ≡ Ok v → Runs q r v) → finished row ≡ Ok new
    → Left smf supi q r new
finished_left smf now supi ok q r (Ok v) new m runs e =
    let is : ended v ≡ new = cc in left_by smf now supi ok q r v new m (runs v m refl) is
finished_left smf now supi ok q r (Err refusal) new m runs e = absurd (cc)

-- a timer that expired, of the session itself
abbrev After : ℕ → TimerId → Working → Working → Type 0
After psi id w v = Runs psi (with_timer psi id false (running_of (held psi w))) v

module _ (w : Working) (psi : ℕ) (none_said : w.acts ≡ []) (s : Stands w.supi w.smf) (right : is_psi psi ≡ true) where
  before : (id : TimerId) (h : Held) → held psi w ≡ Some h
      → running_now psi (with_timer psi id false (running_of (held psi w))) w ≡ with_timer psi id false (running_in h.phase)
  before id h e =
      ap (λ acts. running_now psi (with_timer psi id false (running_of (held psi w))) (record w { acts = acts })) none_said
      ∙ ap (λ (o : Option Held). with_timer psi id false (running_of o)) e

  same_after : (id : TimerId) → with_timer psi id false (running_of (held psi w)) ≡ running_of (held psi w) → After psi id w w
  same_after id same =
      ap (λ acts. running_now psi (with_timer psi id false (running_of (held psi w))) (record w { acts = acts })) none_said ∙ same

  off : (id : TimerId) (h : Held) → held psi w ≡ Some h → IsOpenIn psi h.phase → timer_of h.phase ≡ Some id
      → stopped psi (Some id) (running_now psi (with_timer psi id false (running_of (held psi w))) w) ≡ no_timer
  off id h e own t =
      ap (stopped psi (Some id)) (before id h e)
      ∙ subst (λ (o : Option TimerId). stopped psi o (stopped psi o (running_in h.phase)) ≡ no_timer) t (stopped_again psi h.phase own)

  modification_after : (h : Held) → held psi w ≡ Some h → (x : Modification) → h.phase ≡ Modifying x → IsOpenIn psi (Modifying x)
      → After psi (T3591 psi) w (modification_expired x psi h.session w)
  modification_after h e x p own =
      let timer : timer_of h.phase ≡ Some (T3591 psi) = ap timer_of p ∙ ap Some own.own in
      let its : IsOpenIn psi h.phase = subst (IsOpenIn psi) (sym p) own in
      let more : Held = record { session = h.session; phase = Modifying (record x { command = again x.command }) } in
      when_holds (After psi (T3591 psi) w) (is_left x.command.sendings) (give_out x.command.message x.command.timer psi more w)
      (releasing psi 0 (Some x.command.timer) h.session w)
      (λ less. given_own psi (with_timer psi (T3591 psi) false (running_of (held psi w))) x.command.message x.command.timer more (Some (T3591 psi)) w s right
      (sent_again (T3591 psi) x.command less own) refl (inr (ap Some (sym own.own))) (off (T3591 psi) h e its timer))
      (λ _. releasing_own psi 0 (with_timer psi (T3591 psi) false (running_of (held psi w))) (Some x.command.timer) h.session w s right
      (subst (λ (t : TimerId). stopped psi (Some t) (running_now psi (with_timer psi (T3591 psi) false (running_of (held psi w))) w) ≡ no_timer)
      (sym own.own) (off (T3591 psi) h e its timer)))

  removed_after : (id : TimerId) (h : Held) → held psi w ≡ Some h → IsOpenIn psi h.phase → timer_of h.phase ≡ Some id
      → After psi id w (removed psi w)
  unfolding removed
  removed_after id h e own t =
      per_holds (After psi id w) (held psi w) w (λ (x : Held). removed_of psi x w)
      (λ none. let no_way : None ≡ Some h = sym none ∙ e in absurd (cc))
      (λ x there. let same : x ≡ h = cc in
      removed_own psi (with_timer psi id false (running_of (held psi w))) x w s right
      (subst (λ (y : Held). stopped psi (timer_of y.phase) (running_now psi (with_timer psi id false (running_of (held psi w))) w) ≡ no_timer) (sym same)
      (subst (λ (o : Option TimerId). stopped psi o (running_now psi (with_timer psi id false (running_of (held psi w))) w) ≡ no_timer) (sym t)
      (off id h e own t))))

  release_after : (h : Held) → held psi w ≡ Some h → (c : Command) → h.phase ≡ Releasing c → IsOpenIn psi (Releasing c)
      → After psi (T3592 psi) w (release_expired c psi h.session w)
  release_after h e c p own =
      let timer : timer_of h.phase ≡ Some (T3592 psi) = ap timer_of p ∙ ap Some own.own in
      let its : IsOpenIn psi h.phase = subst (IsOpenIn psi) (sym p) own in
      let more : Held = record { session = h.session; phase = Releasing (again c) } in
      when_holds (After psi (T3592 psi) w) (is_left c.sendings) (give_out c.message c.timer psi more w) (removed psi w)
      (λ less. given_own psi (with_timer psi (T3592 psi) false (running_of (held psi w))) c.message c.timer more (Some (T3592 psi)) w s right
      (sent_again (T3592 psi) c less own) refl (inr (ap Some (sym own.own))) (off (T3592 psi) h e its timer))
      (λ _. removed_after (T3592 psi) h e its timer)

  -- where another command is open, or none
  stale : (id : TimerId) (h : Held) → held psi w ≡ Some h → (phase : Phase) → h.phase ≡ phase
      → with_timer psi id false (running_in phase) ≡ running_in phase → After psi id w w
  stale id h e phase p same =
      let is : running_of (held psi w) ≡ running_in phase = ap running_of e ∙ ap running_in p in
      same_after id (ap (with_timer psi id false) is ∙ same ∙ sym is)

  modifying_after : (h : Held) → held psi w ≡ Some h → (phase : Phase) → h.phase ≡ phase → IsOpenIn psi phase
      → After psi (T3591 psi) w (of_modifying phase psi h.session w)
  modifying_after h e (Modifying x) p own = modification_after h e x p own
  modifying_after h e (Active last) p own = stale (T3591 psi) h e (Active last) p (first_own psi false no_timer)
  modifying_after h e (Settling last) p own = stale (T3591 psi) h e (Settling last) p (first_own psi false no_timer)
  modifying_after h e (Releasing c) p own = stale (T3591 psi) h e (Releasing c) p (first_own psi false (running_in (Releasing c)))

  releasing_after : (h : Held) → held psi w ≡ Some h → (phase : Phase) → h.phase ≡ phase → IsOpenIn psi phase
      → After psi (T3592 psi) w (of_releasing phase psi h.session w)
  releasing_after h e (Releasing c) p own = release_after h e c p own
  releasing_after h e (Active last) p own = stale (T3592 psi) h e (Active last) p (second_own psi false no_timer)
  releasing_after h e (Settling last) p own = stale (T3592 psi) h e (Settling last) p (second_own psi false no_timer)
  releasing_after h e (Modifying x) p own = stale (T3592 psi) h e (Modifying x) p (second_own psi false (running_in (Modifying x)))

  none_after : (id : TimerId) → with_timer psi id false no_timer ≡ no_timer → held psi w ≡ None → After psi id w w
  none_after id same none =
      same_after id (ap (λ (o : Option Held). with_timer psi id false (running_of o)) none ∙ same ∙ ap running_of (sym none))

  pub t3591_after : AreSessions w.smf → After psi (T3591 psi) w (expired (T3591 psi) w)
  unfolding expired
  t3591_after are =
      per_holds (After psi (T3591 psi) w) (held psi w) w (λ (h : Held). of_modifying h.phase psi h.session w)
      (λ none. none_after (T3591 psi) (first_own psi false no_timer) none)
      (λ h e. modifying_after h e h.phase refl (subst (HasOwnCommand psi) e (has_own w.supi psi w.smf s right are.commands)))

  pub t3592_after : AreSessions w.smf → After psi (T3592 psi) w (expired (T3592 psi) w)
  unfolding expired
  t3592_after are =
      per_holds (After psi (T3592 psi) w) (held psi w) w (λ (h : Held). of_releasing h.phase psi h.session w)
      (λ none. none_after (T3592 psi) (second_own psi false no_timer) none)
      (λ h e. releasing_after h e h.phase refl (subst (HasOwnCommand psi) e (has_own w.supi psi w.smf s right are.commands)))

-- every input
module _ (smf : SmfState) (now : ℕ) (supi : List ℕ) (q : ℕ) (are : AreSessions smf) (s : Stands supi smf) (right : is_psi q ≡ true) where
  abbrev w : Working
  w = started smf now supi

  runs_on : (input : SmfInput) → names_one input ≡ true → (r : Running) → r ≡ running_of (held q w) → (v : Working)
      → Shifted (may_change input) w v → Runs q r v
  runs_on input one r e v m =
      shifted_runs (may_change input) w v q r (named_by input one) right s are e m

  abbrev IsLeft : SmfInput → Type 0
  IsLeft input = (new : Stepped) → names_one input ≡ true → (r : Running) → r ≡ running_of (held q w) → step_of smf now supi input ≡ Ok new
      → Left smf supi q r new

  unexpired : (input : SmfInput) → IsLeft input
  unexpired input new one r start e =
      finished_left smf now supi (may_change input) q r (worked input w) new (worked_goes w input) (λ v m _. runs_on input one r start v m) e

  -- the timer of the session or of another
  timed : (id : TimerId) (psi : ℕ) (new : Stepped) → names_one (Expired id) ≡ true → Goes (may_change (Expired id)) w (Ok (expired id w))
      → (Runs psi (with_timer psi id false (running_of (held psi w))) (expired id w))
      → ((psi == q) ≡ false → with_timer q id false (running_of (held q w)) ≡ running_of (held q w))
      → finished (Ok (expired id w)) ≡ Ok new → Left smf supi q (with_timer q id false (running_of (held q w))) new
  timed id psi new one goes own other e =
      let is : ended (expired id w) ≡ new = cc in
      left_by smf now supi (may_change (Expired id)) q (with_timer q id false (running_of (held q w))) (expired id w) new goes
      (either psi q (λ n. Runs n (with_timer n id false (running_of (held n w))) (expired id w)) own
      (λ differ. runs_on (Expired id) one (with_timer q id false (running_of (held q w))) (other differ) (expired id w) goes)) is

  expired_left : (id : TimerId) (new : Stepped) → names_one (Expired id) ≡ true → step_of smf now supi (Expired id) ≡ Ok new
      → Left smf supi q (with_timer q id false (running_of (held q w))) new
  unfolding worked
  expired_left (T3591 psi) new one e =
      timed (T3591 psi) psi new one (worked_goes w (Expired (T3591 psi))) (t3591_after w psi refl s one are)
      (λ differ. when_false (psi == q) (record (running_of (held q w)) { t3591 = false }) (running_of (held q w)) differ) e
  expired_left (T3592 psi) new one e =
      timed (T3592 psi) psi new one (worked_goes w (Expired (T3592 psi))) (t3592_after w psi refl s one are)
      (λ differ. when_false (psi == q) (record (running_of (held q w)) { t3592 = false }) (running_of (held q w)) differ) e
  expired_left T3510 new one e = unexpired (Expired T3510) new one (running_of (held q w)) refl e
  expired_left T3516 new one e = unexpired (Expired T3516) new one (running_of (held q w)) refl e
  expired_left T3517 new one e = unexpired (Expired T3517) new one (running_of (held q w)) refl e
  expired_left T3521 new one e = unexpired (Expired T3521) new one (running_of (held q w)) refl e
  expired_left T3522 new one e = unexpired (Expired T3522) new one (running_of (held q w)) refl e
  expired_left T3550 new one e = unexpired (Expired T3550) new one (running_of (held q w)) refl e
  expired_left T3555 new one e = unexpired (Expired T3555) new one (running_of (held q w)) refl e
  expired_left T3560 new one e = unexpired (Expired T3560) new one (running_of (held q w)) refl e
  expired_left (T3580 psi) new one e = unexpired (Expired (T3580 psi)) new one (running_of (held q w)) refl e
  expired_left (T3581 psi) new one e = unexpired (Expired (T3581 psi)) new one (running_of (held q w)) refl e
  expired_left (T3582 psi) new one e = unexpired (Expired (T3582 psi)) new one (running_of (held q w)) refl e

pub timers_run : TimersRunWhileOpen
timers_run smf now supi (Expired id) psi new are some one right e =
    expired_left smf now supi psi are (sessions_stand supi smf some are) right id new one e
timers_run smf now supi (Frame n challenge dnn slice octets) psi new are some one right e =
    unexpired smf now supi psi are (sessions_stand supi smf some are) right
    (Frame n challenge dnn slice octets) new one _ refl e
timers_run smf now supi Switched psi new are some one right e =
    unexpired smf now supi psi are (sessions_stand supi smf some are) right Switched new one _ refl e
timers_run smf now supi ReleaseAll psi new are some one right e =
    unexpired smf now supi psi are (sessions_stand supi smf some are) right ReleaseAll new one _ refl e
timers_run smf now supi (KeepOnly status) psi new are some one right e =
    unexpired smf now supi psi are (sessions_stand supi smf some are) right (KeepOnly status) new one _ refl e
timers_run smf now supi (Modify n ops ambr) psi new are some one right e =
    unexpired smf now supi psi are (sessions_stand supi smf some are) right (Modify n ops ambr) new one _ refl e
timers_run smf now supi (Release n) psi new are some one right e =
    unexpired smf now supi psi are (sessions_stand supi smf some are) right (Release n) new one _ refl e
