-- The timer of a procedure runs exactly while that procedure is open.
use Rattle.std.proofs.Common.{◌≡◌, ◌∙◌, ap, refl, subst, sym, ℕ, Bool, true, false, List, [], ◌∷◌, None, Result, Ok, Err}
use Rattle.std.specs.Str.{bytes_eq}
use Rattle.nas_base.specs.Branches.{chosen}
use Rattle.nas_timers.specs.Timers.{stopped}
use Rattle.amf_core.specs.State.{AmfState, subscriber_in}
use Rattle.amf_core.specs.Step.{Stepped, step_of, worked}
use Rattle.amf_core.specs.declared.inputs.AmfInput.{AmfInput}
use Rattle.amf_core.specs.declared.inputs.AmfInput.TheVariants as inputs
use Rattle.amf_core.specs.declared.inputs.AmfRefusal.{AmfRefusal}
use Rattle.amf_laws.specs.Kept.{StayFew, SupisStay, supis}
use Rattle.amf_laws.specs.Timers.{AreDistinct, FitProcedures, Running, StayDistinct, TimersFit, expired_by, taken_by}
use Rattle.amf_laws.specs.Timers as laws
use Rattle.amf_laws.proofs.KeptLaws.{kept_lists_have_two_at_most}
use Rattle.amf_laws.proofs.SupiLaws.{same_subscribers_are_kept}
use Rattle.amf_laws.proofs.TimerLaws.{subscribers_stay_distinct, timers_fit_procedures}
use Rattle.nas_network.specs.TakingOver.{TurnChanges, taken_over}
use Rattle.nas_network.specs.Network.{amf_command, answered, commanded, outcome}
use Rattle.nas_network.specs.Owners.{HaveOwners, IsNoExpiry, all_keep_few, running_for, running_of, timed}
use Rattle.nas_network.specs.State.{NetworkState, timers_of}
use Rattle.nas_network.specs.Ticks.{DueTimer, all_fired, due_list, fired, is_due, ticked, told, without}
use Rattle.nas_network.specs.Turns.{Turn, all_taken, begun, onto, stepped, turned}
use Rattle.nas_network.specs.declared.command.NetCommand.{NetCommand}
use Rattle.nas_network.specs.declared.command.NetCommand.TheVariants.{Authenticate, Deregister, Update}
use Rattle.nas_network.specs.declared.command.NetDelivery.{NetDelivery}
use Rattle.nas_network.proofs.Few.{all_keep, each_keeps_few}
use Rattle.nas_network.proofs.Running.{all_run, all_stay, all_timed, stop_runs}
use Rattle.nas_network.proofs.Supis.{is_one_of, no_record_of, no_timers_of, timed_stay}

-- what goes out of a step leaves those of the procedures that are open
taken_fit : (x : List ℕ) (s : Stepped) (r : List ℕ → Running) (t : Turn) (there : Bool) → is_one_of x (timed t.network.timers) ≡ there
    → timed t.network.timers ≡ supis s.amf.subscribers → (is_one_of x (timed t.network.timers) ≡ true → running_for t.network.timers x ≡ r x)
    → FitProcedures s.amf (taken_by s.outs r) → running_for (all_taken s.outs t).network.timers x ≡ laws.running_of x s.amf
taken_fit x s r t true there same runs fit =
    all_run x s.outs t there ∙ ap (λ (q : Running). laws.all_taken x s.outs q) (runs there) ∙ fit x
taken_fit x s r t false there same runs fit =
    let none : timers_of x (all_taken s.outs t).network.timers ≡ [] =
    no_timers_of x _ (ap (λ (ys : List (List ℕ)). is_one_of x ys) (all_timed s.outs t) ∙ there) in
    let unknown : subscriber_in x s.amf.subscribers ≡ None =
    no_record_of x s.amf.subscribers (ap (λ (ys : List (List ℕ)). is_one_of x ys) (sym same) ∙ there) in
    ap running_of none ∙ sym (ap laws.running_for unknown)

-- what holds of a step of an AMF
record Lawful (a : AmfState) (input : AmfInput) (s : Stepped) : Type 0 where
  fit : TimersFit a input (Ok s)
  distinct : StayDistinct a (Ok s)
  supis : SupisStay a (Ok s)
  few : StayFew a (Ok s)

lawful : (n : NetworkState) (rand : List ℕ) (input : AmfInput) (s : Stepped) → step_of n.amf n.home n.moment rand input ≡ Ok s
    → Lawful n.amf input s
lawful n rand input s step = record {
  fit = subst (λ (r : Result Stepped AmfRefusal). TimersFit n.amf input r) step (timers_fit_procedures n.amf n.home n.moment rand input);
  distinct = subst (λ (r : Result Stepped AmfRefusal). StayDistinct n.amf r) step (subscribers_stay_distinct n.amf n.home n.moment rand input);
  supis = subst (λ (r : Result Stepped AmfRefusal). SupisStay n.amf r) step (same_subscribers_are_kept n.amf n.home n.moment rand input);
  few = subst (λ (r : Result Stepped AmfRefusal). StayFew n.amf r) step (kept_lists_have_two_at_most n.amf n.home n.moment rand input);
}

-- those that run when the turn goes on are those of the procedures, but for one that expires
record Begins (n : NetworkState) (input : AmfInput) (t : Turn) : Type 0 where
  owned : HaveOwners n
  same : timed t.network.timers ≡ timed n.timers
  runs : (x : List ℕ) → is_one_of x (timed t.network.timers) ≡ true
      → running_for t.network.timers x ≡ expired_by input (running_for n.timers) x

onto_owned : (n : NetworkState) (input : AmfInput) (s : Stepped) (t : Turn) → Begins n input t → Lawful n.amf input s
    → HaveOwners (onto (Ok s) t).network
onto_owned n input s t b law =
    let next : Turn = record t { network = record t.network { amf = s.amf; home = s.home } } in
    let here : timed t.network.timers ≡ supis s.amf.subscribers = b.same ∙ b.owned.same ∙ sym law.supis in
    let stays : s.amf ≡ (all_taken s.outs next).network.amf = sym (all_stay s.outs next) in
    record {
      fit = λ x. taken_fit x s (expired_by input (running_for n.timers)) next (is_one_of x (timed t.network.timers)) refl here (b.runs x)
          (law.fit b.owned.distinct (running_for n.timers) b.owned.fit)
          ∙ ap (λ (a : AmfState). laws.running_of x a) stays;
      distinct = subst (λ (a : AmfState). AreDistinct a.subscribers) stays (law.distinct b.owned.distinct);
      same = all_timed s.outs next ∙ here ∙ ap (λ (a : AmfState). supis a.subscribers) stays;
      few = subst (λ (a : AmfState). all_keep_few a.subscribers ≡ true) stays
          (all_keep s.amf.subscribers (law.few (each_keeps_few n.amf.subscribers b.owned.few)));
    }

onto_by : (n : NetworkState) (rand : List ℕ) (input : AmfInput) (t : Turn) (r : Result Stepped AmfRefusal)
    → step_of n.amf n.home n.moment rand input ≡ r → Begins n input t → ((e : AmfRefusal) → r ≡ Err e → HaveOwners t.network)
    → HaveOwners (onto r t).network
onto_by n rand input t (Ok s) step b refused = onto_owned n input s t b (lawful n rand input s step)
onto_by n rand input t (Err e) step b refused = refused e refl

-- an input that isn't the expiry of a timer
begins : (input : AmfInput) (t : Turn) → IsNoExpiry input → HaveOwners t.network → Begins t.network input t
begins input t none owned = record { owned = owned; same = refl; runs = λ x _. sym (none (running_for t.network.timers) x) }

turned_owned : (rand : List ℕ) (input : AmfInput) (t : Turn) → IsNoExpiry input → HaveOwners t.network
    → HaveOwners (turned rand input t).network
unfolding turned
turned_owned rand input t none owned =
    onto_by t.network rand input t (stepped rand input t) refl (begins input t none owned) (λ _ _. owned)

-- the expiry of a timer that was stopped
expiry_begins : (d : DueTimer) (t : Turn) → HaveOwners t.network
    → Begins t.network (inputs.Expired d.supi d.id) (record t { network = without d t.network })
expiry_begins d t owned =
    let stay : timed (without d t.network).timers ≡ timed t.network.timers = timed_stay d.supi (stopped d.id) t.network.timers in
    record {
      owned = owned;
      same = stay;
      runs = λ x there. stop_runs x d.supi d.id t (bytes_eq d.supi x) refl
          (ap (λ (ys : List (List ℕ)). is_one_of x ys) (sym stay) ∙ there);
    }

expired_owned : (rand : List ℕ) (d : DueTimer) (t : Turn) → HaveOwners t.network
    → HaveOwners (turned rand (inputs.Expired d.supi d.id) (record t { network = without d t.network })).network
unfolding turned worked
expired_owned rand d t owned =
    let next : Turn = record t { network = without d t.network } in
    onto_by t.network rand (inputs.Expired d.supi d.id) next (stepped rand (inputs.Expired d.supi d.id) next) refl (expiry_begins d t owned)
    (λ _ is. absurd (cc is))

-- timers that fire
fired_by : (rand : List ℕ) (d : DueTimer) (t : Turn) (due : Bool) → HaveOwners t.network
    → HaveOwners (chosen due (turned rand (inputs.Expired d.supi d.id) (record t { network = without d t.network })) t).network
unfolding chosen
fired_by rand d t true owned = expired_owned rand d t owned
fired_by rand d t false owned = owned

all_fired_owned : (rand : List ℕ) (ds : List DueTimer) (t : Turn) → HaveOwners t.network → HaveOwners (all_fired rand ds t).network
unfolding fired
all_fired_owned rand [] t owned = owned
all_fired_owned rand (d ∷ ds) t owned = all_fired_owned rand ds (fired rand d t) (fired_by rand d t (is_due d t.network) owned)

told_owned : (moment : ℕ) (n : NetworkState) → HaveOwners n → HaveOwners (told moment n)
told_owned moment n owned = record { fit = owned.fit; distinct = owned.distinct; same = owned.same; few = owned.few }

fired_owned : (rand : List ℕ) (moment : ℕ) (n : NetworkState) → HaveOwners n
    → HaveOwners (all_fired rand (due_list moment n.timers) (begun (told moment n))).network
fired_owned rand moment n owned =
    all_fired_owned rand (due_list moment n.timers) (begun (told moment n)) (told_owned moment n owned)

-- what is taken over of an event
answer_owned : (n : NetworkState) (l : TurnChanges) (delivery : NetDelivery) (t : Turn) → answered (taken_over l n) delivery ≡ t → HaveOwners t.network
    → HaveOwners (taken_over l n)
answer_owned n l delivery t is owned = subst (λ (u : Turn). HaveOwners u.network) (sym is) owned

pub followed_once : (rand : List ℕ) (input : AmfInput) (n : NetworkState) (l : TurnChanges) (delivery : NetDelivery) → IsNoExpiry input → HaveOwners n
    → answered (taken_over l n) delivery ≡ turned rand input (begun n) → HaveOwners (taken_over l n)
followed_once rand input n l delivery none owned is =
    answer_owned n l delivery (turned rand input (begun n)) is (turned_owned rand input (begun n) none owned)

pub followed_tick : (rand : List ℕ) (now : ℕ) (n : NetworkState) (l : TurnChanges) (delivery : NetDelivery) → HaveOwners n
    → answered (taken_over l n) delivery ≡ ticked rand now n → HaveOwners (taken_over l n)
unfolding ticked
followed_tick rand now n l delivery owned is = answer_owned n l delivery (ticked rand now n) is (fired_owned rand _ n owned)

-- and of a command, which may be refused
command_is_none : (command : NetCommand) → IsNoExpiry (amf_command command)
command_is_none (Authenticate supi) = λ _ _. refl
command_is_none (Deregister supi) = λ _ _. refl
command_is_none (Update supi) = λ _ _. refl

outcome_owned : (rand : List ℕ) (input : AmfInput) (old new : NetworkState) (delivery : NetDelivery) (r : Result Stepped AmfRefusal)
    → stepped rand input (begun old) ≡ r → IsNoExpiry input → outcome r old ≡ Ok (answered new delivery) → HaveOwners old → HaveOwners new
outcome_owned rand input old new delivery (Ok s) step none is owned =
    let same : onto (Ok s) (begun old) ≡ answered new delivery = cc is in
    subst (λ (u : Turn). HaveOwners u.network) same
    (onto_owned old input s (begun old) (begins input (begun old) none owned) (lawful old rand input s step))
outcome_owned rand input old new delivery (Err refusal) step none is owned = absurd (cc is)

pub followed_command : (rand : List ℕ) (command : NetCommand) (n : NetworkState) (l : TurnChanges) (delivery : NetDelivery) → HaveOwners n
    → commanded rand command n ≡ Ok (answered (taken_over l n) delivery) → HaveOwners (taken_over l n)
unfolding commanded
followed_command rand command n l delivery owned is =
    outcome_owned rand (amf_command command) n (taken_over l n) delivery (stepped rand (amf_command command) (begun n)) refl (command_is_none command) is owned
