-- The small changes that a row of one session is made of.
use Rattle.std.proofs.Common.{◌≡◌, refl, subst, sym, true, ℕ, List, [], Option, Some, None, Result, Ok, Err}
use Rattle.std.specs.Prelude.{◌==◌}
use Rattle.nas_base.proofs.Branching.{per_holds, when_holds}
use Rattle.nas_base.specs.Branches.{per, when◌then◌else◌}
use Rattle.nas_base.specs.Values.{is_psi, psi_from}
use Rattle.nas_base.specs.declared.sm_cause.TheConstants as cause
use Rattle.nas_qos.specs.Rules.{QosRule}
use Rattle.collision_rules.specs.declared.action.Action.{Action}
use Rattle.collision_rules.specs.declared.action.Action.TheVariants.{Take, Discard, Status98, Status43, Status47}
use Rattle.sm_messages.specs.Messages.{sm_in, spelling}
use Rattle.sm_messages.specs.Session.{SessionValues}
use Rattle.sm_messages.specs.declared.establishment.PduSessionEstablishmentAccept.{PduSessionEstablishmentAccept}
use Rattle.sm_messages.specs.declared.message.Sm.{Sm}
use Rattle.sm_messages.specs.declared.message.Sm.TheVariants as sm
use Rattle.sm_messages.specs.declared.message.SmFrame.{SmFrame}
use Rattle.sm_messages.specs.declared.message.SmRefusal.{SmRefusal}
use Rattle.sm_messages.specs.declared.message.SmRefusal.TheVariants.{Ignored, UnknownType, Mandatory, Memory}
use Rattle.sm_messages.specs.declared.modification.PduSessionModificationCommand.{PduSessionModificationCommand}
use Rattle.ue_sm.proofs.Following.{Follows, answering_follows, completed_follows, none_follows, refused_follows, rejected_follows, unanswered_follows}
use Rattle.ue_sm.proofs.Identities.{psi_named}
use Rattle.ue_sm.proofs.EndingCells.{answering_runs, completed_ends, refused_ends, rejected_ends, unanswered_ends}
use Rattle.ue_sm.specs.Cells.{answering, completed, refused, rejected, session_of, transaction_of, unanswered}
use Rattle.ue_sm.specs.Delivery.{action, by_action, delivered, five_gsm_status, octet_at, read, received, taken}
use Rattle.ue_sm.specs.Establishment.{accepted_session, accepted_with, establishment_accepted, establishment_rejected}
use Rattle.ue_sm.specs.Mobility.{has_head, not_forwarded, unforwarded}
use Rattle.ue_sm.specs.Modification.{modification_rejected}
use Rattle.ue_sm.specs.NetworkCommands.{answer_with, applied_to, command_in, last_of, message_of, mismatched, modification_commanded, release_commanded, rules_by, same_answer}
use Rattle.ue_sm.specs.Release.{release_rejected}
use Rattle.ue_sm.specs.Rules.{ruled}
use Rattle.ue_sm.specs.TimerLaws.{running_in}
use Rattle.ue_sm.specs.Transactions.{OpenTransaction}
use Rattle.ue_sm.specs.Work.{cell, ended, put, say, status, tell}
use Rattle.ue_sm.specs.declared.cells.Answer.{Answer}
use Rattle.ue_sm.specs.declared.cells.Answer.TheVariants.{Complete, Refused, Mismatch}
use Rattle.ue_sm.specs.declared.cells.Cell.{Cell}
use Rattle.ue_sm.specs.declared.cells.Cell.TheVariants.{Inactive, Active}
use Rattle.ue_sm.specs.declared.outs.SmOut.TheVariants.{Carry}
use Rattle.ue_sm.specs.declared.work.Work.{Work}

-- A message of the session goes out; its transaction ends, with its timer; or it
-- becomes another whose transaction is the same.
pub data Moves (n : ℕ) (w : Work) : Work → Type 0 where
  unmoved : Moves n w w
  carries : {v : Work} (dnn : Option (List ℕ)) (frame : List ℕ) → Moves n w v → Moves n w (tell (Carry n dnn frame) v)
  ends : {v : Work} (c : Cell) → Follows (cell n v) c → transaction_of c ≡ None → Moves n w v → Moves n w (ended n c v)
  keeps : {v : Work} (c : Cell) → Follows (cell n v) c → running_in c ≡ running_in (cell n v) → Moves n w v → Moves n w (put n c v)

said : (n pti : ℕ) (message : Sm) (w v : Work) → Moves n w v → Moves n w (say n pti message v)
said n pti message w v moves = carries {v = v} None (spelling (record { psi = n; pti = pti; body = message })) moves

told_status : (n pti code : ℕ) (w v : Work) → Moves n w v → Moves n w (status n pti code v)
told_status n pti code w v moves = said n pti (sm.FiveGsmStatus (record { cause = code })) w v moves

ended_with : (n : ℕ) (c : Cell) (w : Work) → Follows (cell n w) c → transaction_of c ≡ None → Moves n w (ended n c w)
ended_with n c w follows none = ends {v = w} c follows none unmoved

left_inactive : (n : ℕ) (w : Work) → Moves n w (ended n Inactive w)
left_inactive n w = ended_with n Inactive w (none_follows (cell n w) Inactive refl) refl

-- establishment
accepted_moves : (rules : Result (List QosRule) ℕ) (n pti : ℕ) (m : PduSessionEstablishmentAccept) (w : Work)
    → Moves n w (accepted_with rules n pti m w)
accepted_moves (Ok rules) n pti m w =
    let new : Cell = Active (record { session = accepted_session m rules; answered = None }) in
    ended_with n new w (none_follows (cell n w) new refl) refl
accepted_moves (Err code) n pti m w = told_status n pti code w (ended n Inactive w) (left_inactive n w)

-- commands of the network
applied_moves : (rules : Result (List QosRule) ℕ) (n pti : ℕ) (command : PduSessionModificationCommand) (w : Work)
    → Moves n w (applied_to rules n pti command w)
applied_moves (Ok rules) n pti command w =
    let new : Cell = completed (last_of pti command Complete) rules (cell n w) in
    said n pti (message_of Complete) w (ended n new w)
    (ended_with n new w (completed_follows (last_of pti command Complete) rules (cell n w)) (completed_ends (last_of pti command Complete) rules (cell n w)))
applied_moves (Err code) n pti command w =
    let new : Cell = refused (last_of pti command (Refused code)) (cell n w) in
    said n pti (message_of (Refused code)) w (ended n new w)
    (ended_with n new w (refused_follows (last_of pti command (Refused code)) (cell n w)) (refused_ends (last_of pti command (Refused code)) (cell n w)))

commanded_moves : (n pti : ℕ) (command : PduSessionModificationCommand) (w : Work)
    → Moves n w (modification_commanded n pti command w)
unfolding modification_commanded
commanded_moves n pti command w =
    per_holds (λ (x : Work). Moves n w x) (session_of (cell n w)) w
    (λ (session : SessionValues). applied_to (rules_by command session) n pti command w)
    (λ _. unmoved) (λ session _. applied_moves (rules_by command session) n pti command w)

mismatched_moves : (n pti : ℕ) (message : Sm) (w : Work) → Moves n w (mismatched n pti message w)
unfolding mismatched
mismatched_moves n pti message w =
    per_holds (λ (x : Work). Moves n w x) (command_in message) w
    (λ (command : PduSessionModificationCommand). answer_with n pti Mismatch (put n (answering (last_of pti command Mismatch) (cell n w)) w))
    (λ _. unmoved)
    (λ command _. said n pti (message_of Mismatch) w (put n (answering (last_of pti command Mismatch) (cell n w)) w)
    (keeps {v = w} (answering (last_of pti command Mismatch) (cell n w)) (answering_follows (last_of pti command Mismatch) (cell n w))
    (answering_runs (last_of pti command Mismatch) (cell n w)) unmoved))

released_moves : (n pti : ℕ) (w : Work) → Moves n w (release_commanded n pti w)
unfolding release_commanded
released_moves n pti w =
    said n pti (sm.PduSessionReleaseComplete (record { cause = None })) w (ended n Inactive w) (left_inactive n w)

taken_moves : (n pti : ℕ) (message : Sm) (w : Work) → Moves n w (taken n pti message w)
unfolding taken establishment_accepted establishment_rejected modification_rejected release_rejected
taken_moves n pti (sm.PduSessionEstablishmentAccept m) w = accepted_moves (ruled m.rules []) n pti m w
taken_moves n pti (sm.PduSessionEstablishmentReject m) w = left_inactive n w
taken_moves n pti (sm.PduSessionModificationCommand m) w = commanded_moves n pti m w
taken_moves n pti (sm.PduSessionModificationReject m) w =
    ended_with n (rejected m.cause (cell n w)) w (rejected_follows m.cause (cell n w))
    (rejected_ends m.cause (cell n w))
taken_moves n pti (sm.PduSessionReleaseCommand m) w = released_moves n pti w
taken_moves n pti (sm.PduSessionReleaseReject m) w =
    ended_with n (rejected m.cause (cell n w)) w (rejected_follows m.cause (cell n w))
    (rejected_ends m.cause (cell n w))
taken_moves n pti (sm.PduSessionEstablishmentRequest m) w = unmoved
taken_moves n pti (sm.PduSessionModificationRequest m) w = unmoved
taken_moves n pti sm.PduSessionModificationComplete w = unmoved
taken_moves n pti (sm.PduSessionModificationCommandReject m) w = unmoved
taken_moves n pti (sm.PduSessionReleaseRequest m) w = unmoved
taken_moves n pti (sm.PduSessionReleaseComplete m) w = unmoved
taken_moves n pti (sm.FiveGsmStatus m) w = unmoved

by_action_moves : (a : Action) (n pti : ℕ) (message : Sm) (w : Work) → Moves n w (by_action a n pti message w)
by_action_moves Take n pti message w = taken_moves n pti message w
by_action_moves Discard n pti message w = unmoved
by_action_moves Status98 n pti message w =
    told_status n pti cause.MESSAGE_TYPE_NOT_COMPATIBLE_WITH_THE_PROTOCOL_STATE w w unmoved
by_action_moves Status43 n pti message w = told_status n pti cause.INVALID_PDU_SESSION_IDENTITY w w unmoved
by_action_moves Status47 n pti message w = mismatched_moves n pti message w

received_moves : (n pti : ℕ) (message : Sm) (w : Work) → Moves n w (received n pti message w)
unfolding received
received_moves n pti message w =
    per_holds (λ (x : Work). Moves n w x) (same_answer pti message (cell n w))
    (by_action (action pti message (cell n w)) n pti message w) (λ (answer : Answer). answer_with n pti answer w)
    (λ _. by_action_moves (action pti message (cell n w)) n pti message w)
    (λ answer _. said n pti (message_of answer) w w unmoved)

read_moves : (r : Result SmFrame SmRefusal) (n : ℕ) (octets : List ℕ) (w : Work) → Moves n w (read r n octets w)
read_moves (Ok frame) n octets w = received_moves n frame.pti frame.body w
read_moves (Err (Ignored at)) n octets w = unmoved
read_moves (Err (UnknownType code)) n octets w =
    told_status n (octet_at octets 2) cause.MESSAGE_TYPE_NON_EXISTENT_OR_NOT_IMPLEMENTED w w unmoved
read_moves (Err (Mandatory part at)) n octets w =
    when_holds (λ (x : Work). Moves n w x) (octet_at octets 3 == five_gsm_status) w
    (status n (octet_at octets 2) cause.INVALID_MANDATORY_INFORMATION w) (λ _. unmoved)
    (λ _. told_status n (octet_at octets 2) cause.INVALID_MANDATORY_INFORMATION w w unmoved)
read_moves (Err Memory) n octets w = unmoved

-- octets change the session that they name
pub delivered_moves : (n : ℕ) (octets : List ℕ) (w : Work) → psi_from (octet_at octets 1) ≡ Some n
    → Moves n w (delivered octets w)
unfolding delivered per
delivered_moves n octets w names =
    subst (λ (o : Option ℕ). Moves n w (per o w (λ (psi : ℕ). read (sm_in octets) psi octets w))) (sym names)
    (read_moves (sm_in octets) n octets w)

-- the rows of a session, if of any
pub record MovesSome (w new : Work) : Type 0 where
  pub session : ℕ
  pub named : is_psi session ≡ true
  pub moves : Moves session w new

pub none_moves : (w : Work) → MovesSome w w
none_moves w = record { session = 1; named = refl; moves = unmoved }

pub delivered_moves_some : (octets : List ℕ) (w : Work) → MovesSome w (delivered octets w)
unfolding delivered
delivered_moves_some octets w =
    per_holds (λ (x : Work). MovesSome w x) (psi_from (octet_at octets 1)) w
    (λ (psi : ℕ). read (sm_in octets) psi octets w)
    (λ _. none_moves w)
    (λ psi names. record { session = psi; named = psi_named (octet_at octets 1) psi names; moves = read_moves (sm_in octets) psi octets w })

-- messages that weren't forwarded
unforwarded_moves : (n pti : ℕ) (w : Work) → Moves n w (unforwarded n pti w)
unforwarded_moves n pti w =
    per_holds (λ (x : Work). Moves n w x) (transaction_of (cell n w)) w
    (λ (t : OpenTransaction). when t.request.pti == pti then ended n (unanswered (cell n w)) w else w)
    (λ _. unmoved)
    (λ t _. when_holds (λ (x : Work). Moves n w x) (t.request.pti == pti) (ended n (unanswered (cell n w)) w) w
    (λ _. ended_with n (unanswered (cell n w)) w (unanswered_follows (cell n w)) (unanswered_ends (cell n w)))
    (λ _. unmoved))

pub not_forwarded_moves : (octets : List ℕ) (w : Work) → MovesSome w (not_forwarded octets w)
unfolding not_forwarded
not_forwarded_moves octets w =
    when_holds (λ (x : Work). MovesSome w x) (has_head octets)
    (per (psi_from (octet_at octets 1)) w (λ (psi : ℕ). unforwarded psi (octet_at octets 2) w)) w
    (λ _. per_holds (λ (x : Work). MovesSome w x) (psi_from (octet_at octets 1)) w (λ (psi : ℕ). unforwarded psi (octet_at octets 2) w)
    (λ _. none_moves w)
    (λ psi names. record { session = psi; named = psi_named (octet_at octets 1) psi names; moves = unforwarded_moves psi (octet_at octets 2) w }))
    (λ _. none_moves w)
