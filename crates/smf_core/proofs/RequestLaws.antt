-- A request that is repeated, and a session in Settling.
use Rattle.std.proofs.Common.{◌≡◌, ◌⊎◌, refl, sym, ◌∙◌, ap, inl, inr, Bool, true, false, ℕ, ◌&&◌, ◌==◌, nat_le, slice_index_or, is_none, List, Option, Some, None, Result, Ok, Err, arith, subst}
use Rattle.std.proofs.lemmas.Bool.Decides.{nat_tests}
use Rattle.nas_base.proofs.Branching.{per_holds, when_holds}
use Rattle.nas_base.specs.Branches.{per, when◌then◌else◌}
use Rattle.nas_base.specs.declared.sm_cause.TheConstants as cause
use Rattle.nas_elements.specs.declared.ambr.Ambr.{Ambr}
use Rattle.nas_elements.specs.declared.slice.Slice.{Slice}
use Rattle.nas_qos.specs.Operations.{Operation}
use Rattle.nas_security.specs.Contexts.{is_challenge}
use Rattle.sm_messages.specs.Messages.{sm_in}
use Rattle.sm_messages.specs.declared.establishment.PduSessionEstablishmentRequest.{PduSessionEstablishmentRequest}
use Rattle.sm_messages.specs.declared.message.Sm.TheVariants as sm
use Rattle.sm_messages.specs.declared.message.SmFrame.{SmFrame}
use Rattle.sm_messages.specs.declared.message.SmRefusal.{SmRefusal}
use Rattle.sm_messages.specs.declared.modification.PduSessionModificationRequest.{PduSessionModificationRequest}
use Rattle.smf_core.specs.Commands.{modify, modify_in}
use Rattle.smf_core.specs.Delivery.{delivered, read, taken}
use Rattle.smf_core.specs.Establishment.{compared, establishment_requested, newly_requested, repeated}
use Rattle.smf_core.specs.Kept.{is_accept}
use Rattle.smf_core.specs.Laws.{RepeatedRequestsMakeNoSession, SettlingSessionsTakeNoModification}
use Rattle.smf_core.specs.Modification.{modification_rejected, modification_requested, modification_requested_in}
use Rattle.smf_core.specs.Release.{is_no_transaction}
use Rattle.smf_core.specs.Step.{ended, finished, started, worked}
use Rattle.smf_core.specs.Work.{Working, cell, frame, held, say_frame}
use Rattle.smf_core.specs.declared.cell.Answer.{Answer}
use Rattle.smf_core.specs.declared.delivery.Carried.{Carried}
use Rattle.smf_core.specs.declared.establishment.Asking.{Asking}
use Rattle.smf_core.specs.declared.held.Held.{Held}
use Rattle.smf_core.specs.declared.held.LastCommand.{LastCommand}
use Rattle.smf_core.specs.declared.held.Phase.TheVariants.{Settling}
use Rattle.smf_core.specs.declared.inputs.SmfRefusal.TheVariants as refusals

-- nothing is done, or the kept answer is said
abbrev IsRepetition : ℕ → SmFrame → Working → Working → Type 0
IsRepetition psi message w v = (v ≡ w) ⊎ (v ≡ say_frame psi message w)

older_or_same : (same : Bool) (pti kept : ℕ) → same ≡ true → pti ≡ kept → (same && nat_le pti kept) ≡ true
older_or_same same pti kept e number = grind (arith, nat_tests, e, number)

compared_again : (a : Asking) (kept : Answer) (new : Working → Working) (w : Working)
    → is_challenge kept.challenge a.challenge ≡ true
    → a.pti ≡ kept.message.pti → IsRepetition a.psi kept.message w (compared a kept new w)
compared_again a kept new w same number =
    let P : Working → Type 0 = λ v. IsRepetition a.psi kept.message w v in
    when_holds P (is_challenge kept.challenge a.challenge && nat_le a.pti kept.message.pti)
    (when a.pti == kept.message.pti then repeated a kept w else w) (new w)
    (λ _. when_holds P (a.pti == kept.message.pti) (repeated a kept w) w
    (λ _. when_holds P (is_none (held a.psi w) && is_accept kept.message.body) w (say_frame a.psi kept.message w) (λ _. inl refl) (λ _. inr refl))
    (λ _. inl refl))
    (λ newer. let no_way : true ≡ false = sym (older_or_same (is_challenge kept.challenge a.challenge) a.pti kept.message.pti same number) ∙ newer in cc)

requested_again : (a : Asking) (kind : Option ℕ) (dnn : Option (List ℕ)) (slice : Option Slice) (kept : Answer) (w : Working)
    → (cell a.psi w).answer ≡ Some kept → is_challenge kept.challenge a.challenge ≡ true → a.pti ≡ kept.message.pti
    → IsRepetition a.psi kept.message w (establishment_requested a kind dnn slice w)
unfolding establishment_requested
requested_again a kind dnn slice kept w there same number =
    let P : Working → Type 0 = λ v. IsRepetition a.psi kept.message w v in
    when_holds P (is_no_transaction a.pti) w
    (per (cell a.psi w).answer (newly_requested a kind dnn slice w) (λ (k : Answer). compared a k (newly_requested a kind dnn slice) w))
    (λ _. inl refl)
    (λ _. per_holds P (cell a.psi w).answer (newly_requested a kind dnn slice w)
    (λ (k : Answer). compared a k (newly_requested a kind dnn slice) w)
    (λ none. let no_way : None ≡ Some kept = sym none ∙ there in cc)
    (λ x some. let is : x ≡ kept = cc in
    let Q : Answer → Type 0 = λ k. P (compared a k (newly_requested a kind dnn slice) w) in
    subst Q (sym is) (compared_again a kept (newly_requested a kind dnn slice) w same number)))

delivered_again : (c : Carried) (pti : ℕ) (octets : List ℕ) (m : PduSessionEstablishmentRequest) (kept : Answer) (w : Working)
    → sm_in octets ≡ Ok (frame c.psi pti (sm.PduSessionEstablishmentRequest m)) → (cell c.psi w).answer ≡ Some kept
    → is_challenge kept.challenge c.challenge ≡ true → pti ≡ kept.message.pti
    → IsRepetition c.psi kept.message w (delivered c octets w)
unfolding delivered taken
delivered_again c pti octets m kept w spells there same number =
    let P : Working → Type 0 = λ v. IsRepetition c.psi kept.message w v in
    let Q : Result SmFrame SmRefusal → Type 0 = λ r. P (read c r octets w) in
    when_holds P (slice_index_or octets 1 0 == c.psi) (read c (sm_in octets) octets w) w
    (λ _. subst Q (sym spells)
    (requested_again (record { psi = c.psi; pti = pti; challenge = c.challenge }) m.session_type c.dnn c.slice kept w there same number))
    (λ _. inl refl)

pub repeated_requests : RepeatedRequestsMakeNoSession
unfolding worked
repeated_requests smf now psi pti supi challenge dnn slice octets m kept spells there same number =
    elim
    (delivered_again (record { psi = psi; challenge = challenge; dnn = dnn; slice = slice }) pti octets m kept (started smf now supi) spells there same number)
    [ inl nothing ↦ inl (ap (λ v. Ok (ended v)) nothing) | inr said ↦ inr (ap (λ v. Ok (ended v)) said) ]

-- Settling
settling_refuses : (psi : ℕ) (ops : List Operation) (ambr : Option Ambr) (h : Held) (last : LastCommand) (w : Working)
    → held psi w ≡ Some h
    → h.phase ≡ Settling last → modify psi ops ambr w ≡ Err (refusals.Settling last.sendings)
unfolding modify
settling_refuses psi ops ambr h last w there settling =
    per_holds (λ v. v ≡ Err (refusals.Settling last.sendings)) (held psi w) (Err (refusals.NoSuchSession psi))
    (λ (x : Held). modify_in x.phase ops ambr psi x.session w)
    (λ none. let no_way : None ≡ Some h = sym none ∙ there in cc)
    (λ x some. let is : x.phase ≡ Settling last = cc in
    ap (λ phase. modify_in phase ops ambr psi x.session w) is)

settling_stays : (rules : Option (List ℕ)) (psi pti : ℕ) (h : Held) (last : LastCommand) (w : Working)
    → held psi w ≡ Some h
    → h.phase ≡ Settling last → (modification_requested rules psi pti w).smf ≡ w.smf
unfolding modification_requested
settling_stays rules psi pti h last w there settling =
    let P : Working → Type 0 = λ v. v.smf ≡ w.smf in
    when_holds P (is_no_transaction pti) w
    (per (held psi w) (modification_rejected psi pti cause.INVALID_PDU_SESSION_IDENTITY w)
    (λ (x : Held). modification_requested_in x.phase rules psi pti x.session w))
    (λ _. refl)
    (λ _. per_holds P (held psi w) (modification_rejected psi pti cause.INVALID_PDU_SESSION_IDENTITY w)
    (λ (x : Held). modification_requested_in x.phase rules psi pti x.session w)
    (λ none. refl)
    (λ x some. let is : x.phase ≡ Settling last = cc in
    ap (λ phase. (modification_requested_in phase rules psi pti x.session w).smf) is))

delivered_stays : (c : Carried) (pti : ℕ) (octets : List ℕ) (m : PduSessionModificationRequest) (h : Held) (last : LastCommand) (w : Working)
    → sm_in octets ≡ Ok (frame c.psi pti (sm.PduSessionModificationRequest m)) → held c.psi w ≡ Some h
    → h.phase ≡ Settling last
    → (delivered c octets w).smf ≡ w.smf
unfolding delivered taken
delivered_stays c pti octets m h last w spells there settling =
    let P : Working → Type 0 = λ v. v.smf ≡ w.smf in
    let Q : Result SmFrame SmRefusal → Type 0 = λ r. P (read c r octets w) in
    when_holds P (slice_index_or octets 1 0 == c.psi) (read c (sm_in octets) octets w) w
    (λ _. subst Q (sym spells) (settling_stays m.rules c.psi pti h last w there settling)) (λ _. refl)

pub settling_sessions : SettlingSessionsTakeNoModification
unfolding worked
settling_sessions smf now psi supi h last there settling = (
  (λ ops ambr. ap finished (settling_refuses psi ops ambr h last (started smf now supi) there settling)),
  (λ pti challenge dnn slice octets m spells.
      delivered_stays (record { psi = psi; challenge = challenge; dnn = dnn; slice = slice }) pti octets m h last (started smf now supi) spells there settling),
)
