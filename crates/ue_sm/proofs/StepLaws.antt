-- The laws of a step.
use Rattle.std.proofs.Common.{◌≡◌, ◌≤◌, ◌∙◌, ap, refl, subst, sym, arith, ℕ, Bool, true, List, Option, Some, None, Result, Ok, Err}
use Rattle.std.specs.Prelude.{◌==◌, ◌&&◌}
use Rattle.std.specs.Str.{bytes_eq}
use Rattle.std.proofs.lemmas.Bool.{eq-eqb}
use Rattle.std.proofs.lemmas.Slice.Eq.{bytes_eq-Decides}
use Rattle.nas_base.proofs.Branching.{when_true}
use Rattle.nas_base.specs.Branches.{per}
use Rattle.nas_base.specs.Values.{is_psi}
use Rattle.nas_base.specs.declared.sm_kind.SmKind.TheVariants as kinds
use Rattle.nas_base.specs.declared.state_words.SmWord.TheVariants as words
use Rattle.nas_elements.specs.declared.ambr.Ambr.{Ambr}
use Rattle.collision_rules.specs.Sm.{collide_sm}
use Rattle.collision_rules.specs.declared.action.Action.TheVariants.{Discard}
use Rattle.collision_rules.specs.declared.action.PtiCase.{PtiCase}
use Rattle.collision_rules.specs.declared.action.PtiCase.TheVariants as pti
use Rattle.sm_messages.specs.Messages.{sm_in}
use Rattle.sm_messages.specs.declared.message.Sm.{Sm}
use Rattle.sm_messages.specs.declared.message.Sm.TheVariants as sm
use Rattle.sm_messages.specs.declared.message.SmFrame.{SmFrame}
use Rattle.sm_messages.specs.declared.message.SmRefusal.{SmRefusal}
use Rattle.sm_messages.specs.declared.modification.PduSessionModificationCommand.{PduSessionModificationCommand}
use Rattle.ue_sm.proofs.Identities.{psi_least, psi_named}
use Rattle.ue_sm.proofs.Moves.{Moves, MovesSome, unmoved, carries, ends, keeps, delivered_moves, delivered_moves_some, not_forwarded_moves}
use Rattle.ue_sm.proofs.Places.{placed_other}
use Rattle.ue_sm.proofs.Stops.{stopped_keeps}
use Rattle.ue_sm.proofs.Staying.{Stays, all_left_stays, commanded_new, expired_stays, stays_moved, stays_new}
use Rattle.ue_sm.specs.Cells.{pti_case}
use Rattle.ue_sm.specs.Commands.{commanded}
use Rattle.ue_sm.specs.Delivery.{action, by_action, delivered, octet_at, read, received}
use Rattle.ue_sm.specs.Laws.{AnswersAgain, AreMessage, ChangesOneSession, HaveNewIdentities, IgnoresWhileReleasing, OnlyChanges, UsesNewIdentities}
use Rattle.ue_sm.specs.Mobility.{left_by, not_forwarded}
use Rattle.ue_sm.specs.NetworkCommands.{again, answer_with, is_same, is_same_ambr, is_same_cause, is_same_if_there, last_answered, same_answer}
use Rattle.ue_sm.specs.State.{SmState, cell_of, put_cell}
use Rattle.ue_sm.specs.Step.{Stepped, finished, started, worked}
use Rattle.ue_sm.specs.Timers.{expired}
use Rattle.ue_sm.specs.Transactions.{OpenTransaction}
use Rattle.ue_sm.specs.Work.{cell, stopped}
use Rattle.ue_sm.specs.declared.cells.Answer.{Answer}
use Rattle.ue_sm.specs.declared.cells.Answered.{Answered}
use Rattle.ue_sm.specs.declared.cells.Cell.{Cell}
use Rattle.ue_sm.specs.declared.cells.Cell.TheVariants.{InactivePending}
use Rattle.ue_sm.specs.declared.cells.Held.{Held}
use Rattle.ue_sm.specs.declared.inputs.SmInput.{SmInput}
use Rattle.ue_sm.specs.declared.inputs.SmInput.TheVariants.{Command, Frame, NotForwarded, Expired, NewContext, Abandon, Clear, Keep}
use Rattle.ue_sm.specs.declared.inputs.SmStepRefusal.{SmStepRefusal}
use Rattle.ue_sm.specs.declared.mobility.Ending.{Ending}
use Rattle.ue_sm.specs.declared.mobility.Ending.TheVariants as ending
use Rattle.ue_sm.specs.declared.work.Work.{Work}

-- what a step leaves is what its row leaves
finished_state : (r : Result Work SmStepRefusal) (new : Stepped) → finished r ≡ Ok new
    → (w : Work) × (r ≡ Ok w) × (w.state ≡ new.state)
finished_state (Ok w) new e =
    let stepped : Stepped = record { state = w.state; outs = w.outs } in
    let same : stepped ≡ new = cc in
    (w, refl, ap (λ (x : Stepped). x.state) same)
finished_state (Err refusal) new e = cc

-- no identity is used twice
stayed : (s : SmState) (now : ℕ) (w : Work) (new : Stepped) → Stays s w.state → finished (Ok w) ≡ Ok new
    → HaveNewIdentities s new.state
stayed s now w new stays e =
    let done : (v : Work) × (Ok w ≡ Ok v) × (v.state ≡ new.state) = finished_state (Ok w) new e in
    let same : w ≡ done.0 = let f : Ok w ≡ Ok done.0 = done.1 in cc in
    subst (λ (x : SmState). HaveNewIdentities s x) (ap (λ (x : Work). x.state) same ∙ done.2)
    (stays_new s w.state stays)

moved : (s : SmState) (now : ℕ) (w : Work) (new : Stepped) → MovesSome (started s now) w → finished (Ok w) ≡ Ok new
    → HaveNewIdentities s new.state
moved s now w new some e = stayed s now w new (stays_moved some.session (started s now) some.moves) e

ended_by : (ending : Ending) (s : SmState) (now : ℕ) (new : Stepped)
    → finished (Ok (left_by ending (started s now))) ≡ Ok new → HaveNewIdentities s new.state
unfolding left_by
ended_by ending s now new e = stayed s now (left_by ending (started s now)) new (all_left_stays ending s) e

pub identities : (s : SmState) (now : ℕ) (input : SmInput) → UsesNewIdentities s now input
unfolding worked
identities s now (Command command) new e other =
    let done : (v : Work) × (commanded command (started s now) ≡ Ok v) × (v.state ≡ new.state) =
    finished_state (commanded command (started s now)) new e in
    subst (λ (x : SmState). HaveNewIdentities s x) done.2 (commanded_new command (started s now) done.0 done.1)
identities s now (Frame octets) new e other =
    moved s now (delivered octets (started s now)) new (delivered_moves_some octets (started s now)) e
identities s now (NotForwarded octets) new e other =
    moved s now (not_forwarded octets (started s now)) new (not_forwarded_moves octets (started s now)) e
identities s now (Expired id) new e other =
    stayed s now (expired id (started s now)) new (expired_stays id (started s now)) e
identities s now NewContext new e other = absurd (other refl)
identities s now Abandon new e other = ended_by ending.Abandon s now new e
identities s now Clear new e other = ended_by ending.Clear s now new e
identities s now (Keep held) new e other = ended_by (ending.Keep held) s now new e

-- a message changes one session
others_stay : (n other : ℕ) (c : Cell) (s : SmState) → is_psi n ≡ true → is_psi other ≡ true → ¬ (other ≡ n)
    → cell_of other (put_cell n c s) ≡ cell_of other s
others_stay n other c s n_is other_is differs =
    let one : 1 ≤ n = psi_least n n_is in
    let two : 1 ≤ other = psi_least other other_is in
    placed_other n other c s (λ e. differs (omega arith))

only_same : (n : ℕ) (s : SmState) → OnlyChanges n s s
only_same n s = record { others = λ other is differs. refl; identities = refl }

only_put : (n : ℕ) (c : Cell) (a s : SmState) → is_psi n ≡ true → OnlyChanges n a s → OnlyChanges n a (put_cell n c s)
only_put n c a s n_is only = record {
  others = λ other is differs. others_stay n other c s n_is is differs ∙ only.others other is differs;
  identities = only.identities;
}

only_moved : (n : ℕ) (w : Work) {new : Work} → is_psi n ≡ true → Moves n w new → OnlyChanges n w.state new.state
only_moved n w is unmoved = only_same n w.state
only_moved n w is (carries dnn frame moves) = only_moved n w is moves
only_moved n w is (ends {v} c follows none moves) =
    only_put n c w.state (stopped n v).state is
    (subst (λ (s : SmState). OnlyChanges n w.state s) (sym (stopped_keeps n v)) (only_moved n w is moves))
only_moved n w is (keeps {v} c follows same moves) = only_put n c w.state v.state is (only_moved n w is moves)

pub one_session : (s : SmState) (now : ℕ) (octets : List ℕ) → ChangesOneSession s now octets
unfolding worked
one_session s now octets psi new names e =
    let w : Work = delivered octets (started s now) in
    let done : (v : Work) × (Ok (delivered octets (started s now)) ≡ Ok v) × (v.state ≡ new.state) =
    finished_state (Ok (delivered octets (started s now))) new e in
    let same : delivered octets (started s now) ≡ done.0 = let f : Ok (delivered octets (started s now)) ≡ Ok done.0 = done.1 in cc in
    subst (λ (x : SmState). OnlyChanges psi s x) (ap (λ (x : Work). x.state) same ∙ done.2)
    (only_moved psi (started s now) (psi_named (octet_at octets 1) psi names) (delivered_moves psi octets (started s now) names))

-- octets that are a message do what it does
delivered_as : (octets : List ℕ) (psi n : ℕ) (message : Sm) (w : Work) → AreMessage octets psi n message
    → delivered octets w ≡ received psi n message w
unfolding delivered per
delivered_as octets psi n message w are =
    ap (λ (o : Option ℕ). per o w (λ (p : ℕ). read (sm_in octets) p octets w)) are.session
    ∙ ap (λ (r : Result SmFrame SmRefusal). read r psi octets w) are.reads

received_in : (psi n : ℕ) (message : Sm) (c : Cell) (w : Work) → cell psi w ≡ c
    → received psi n message w ≡ per (same_answer n message c) (by_action (action n message c) psi n message w) (λ (answer : Answer). answer_with psi n answer w)
unfolding received
received_in psi n message c w is =
    ap (λ (x : Cell). per (same_answer n message x) (by_action (action n message x) psi n message w) (λ (answer : Answer). answer_with psi n answer w)) is

-- an equal command is answered again
same_bytes : (octets : List ℕ) → bytes_eq octets octets ≡ true
same_bytes octets = (bytes_eq-Decides octets octets).1 refl

same_ambr : (a : Ambr) → is_same_ambr a a ≡ true
same_ambr a =
    rw (eq-eqb a.down_unit a.down_unit refl, eq-eqb a.down a.down refl, eq-eqb a.up_unit a.up_unit refl, eq-eqb a.up a.up refl) refl

same_if_there : {A : Type 0} (same : A → A → Bool) → ((x : A) → same x x ≡ true) → (o : Option A)
    → is_same_if_there same o o ≡ true
same_if_there same each None = refl
same_if_there same each (Some x) = each x

same_command : (command : PduSessionModificationCommand) → is_same command command ≡ true
same_command command =
    rw (same_if_there is_same_cause (λ n. eq-eqb n n refl) command.cause, same_if_there is_same_ambr same_ambr command.ambr, same_if_there bytes_eq same_bytes command.rules) refl

again_last : (last : Answered) → again last.pti last.command (Some last) ≡ Some last.answer
unfolding per
again_last last =
    when_true (last.pti == last.pti && is_same last.command last.command) (Some last.answer) None
    (rw (eq-eqb last.pti last.pti refl, same_command last.command) refl)

same_last : (c : Cell) (last : Answered) → last_answered c ≡ Some last
    → same_answer last.pti (sm.PduSessionModificationCommand last.command) c ≡ Some last.answer
unfolding same_answer per
same_last c last is = ap (again last.pti last.command) is ∙ again_last last

answered_again : (psi n : ℕ) (message : Sm) (answer : Answer) (w : Work)
    → same_answer n message (cell psi w) ≡ Some answer
    → received psi n message w ≡ answer_with psi n answer w
unfolding received per
answered_again psi n message answer w is =
    ap (λ (o : Option Answer). per o (by_action (action n message (cell psi w)) psi n message w) (λ (a : Answer). answer_with psi n a w)) is

pub answers_again : (s : SmState) (now : ℕ) (octets : List ℕ) → AnswersAgain s now octets
unfolding worked
answers_again s now octets psi last is are =
    let w : Work = started s now in
    ap (λ (x : Work). finished (Ok x))
    (delivered_as octets psi last.pti (sm.PduSessionModificationCommand last.command) (started s now) are
    ∙ answered_again psi last.pti (sm.PduSessionModificationCommand last.command) last.answer (started s now)
    (same_last (cell_of psi s) last is))

-- a command is ignored while its session is released
discarded : (case : PtiCase) → collide_sm words.InactivePending kinds.PduSessionModificationCommand case ≡ Discard
discarded pti.None = refl
discarded pti.Mine = refl
discarded pti.Foreign = refl

ignored : (psi n : ℕ) (command : PduSessionModificationCommand) (held : Held) (t : OpenTransaction) (w : Work)
    → per (same_answer n (sm.PduSessionModificationCommand command) (InactivePending held t))
    (by_action (action n (sm.PduSessionModificationCommand command) (InactivePending held t)) psi n (sm.PduSessionModificationCommand command) w)
    (λ (answer : Answer). answer_with psi n answer w) ≡ w
unfolding same_answer per
ignored psi n command held t w =
    ap (λ a. by_action a psi n (sm.PduSessionModificationCommand command) w)
    (discarded (pti_case n (InactivePending held t)))

pub ignores : (s : SmState) (now : ℕ) (octets : List ℕ) → IgnoresWhileReleasing s now octets
unfolding worked
ignores s now octets psi n command held t is are =
    ap (λ (x : Work). finished (Ok x))
    (delivered_as octets psi n (sm.PduSessionModificationCommand command) (started s now) are
    ∙ received_in psi n (sm.PduSessionModificationCommand command) (InactivePending held t) (started s now) is
    ∙ ignored psi n command held t (started s now))
