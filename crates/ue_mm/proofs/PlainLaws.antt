-- What plain octets do.
use Rattle.std.proofs.Common.{◌≡◌, refl, ap, ◌∙◌, ℕ, Bool, true, false, not, ◌==◌, ◌||◌, List, length, nat_lt, slice_index_or, Result, Ok, arith}
use Rattle.std.proofs.lemmas.Grind.{common_steps}
use Rattle.nas_base.specs.Branches.{when◌then◌else◌}
use Rattle.nas_base.specs.declared.mm_cause.TheConstants as cause
use Rattle.collision_rules.specs.Plain.{permitted_ue}
use Rattle.collision_rules.specs.declared.action.Action.{Action}
use Rattle.collision_rules.specs.declared.action.Action.TheVariants.{Take, Discard, Status98, Status43, Status47}
use Rattle.mm_messages.specs.KindOf.{kind_of}
use Rattle.mm_messages.specs.Messages.{mm_in}
use Rattle.mm_messages.specs.declared.message.Mm.{Mm}
use Rattle.mm_messages.specs.declared.message.Mm.TheVariants as mm
use Rattle.mm_messages.specs.declared.message.MmRefusal.{MmRefusal}
use Rattle.mm_entity.specs.Heads.{header_of}
use Rattle.ue_mm.specs.Delivery.{action, delivered, is_permitted_type, is_plain_allowed, new_context, plain, plain_by_table, plain_read, protected}
use Rattle.ue_mm.specs.Laws.{AreReadPlain, Does, PlainDoByKind}
use Rattle.ue_mm.specs.State.{MmState}
use Rattle.ue_mm.specs.Step.{ended, started, worked}
use Rattle.ue_mm.specs.Work.{status}
use Rattle.ue_mm.specs.declared.inputs.UeInput.TheVariants.{Delivered}
use Rattle.ue_mm.specs.declared.work.Work.{Work}
use Rattle.nas_base.proofs.Branching.{when_false, when_true}

-- the kinds that are permitted are those of the table
permitted_kind : (m : Mm) → is_plain_allowed m ≡ true → permitted_ue (kind_of m) ≡ true
permitted_kind (mm.IdentityRequest m) e = refl
permitted_kind (mm.RegistrationReject m) e = refl
permitted_kind (mm.ServiceReject m) e = refl
permitted_kind m e = e

-- plain octets are read
are_read : (octets : List ℕ) (w : Work) → AreReadPlain w.common octets
    → delivered octets w ≡ plain_read (mm_in octets) octets w
unfolding delivered plain
are_read octets w reads =
    when_false (not w.common.connected || nat_lt 4096 (length octets)) w
    (when header_of octets == 0 then plain octets w
    else (when header_of octets == 3 then new_context octets w else protected octets w))
    (grind (arith, common_steps, reads.0, reads.3))
    ∙ when_true (header_of octets == 0) (plain octets w) _ (grind (arith, common_steps, reads.2))
    ∙ when_false w.common.secure w _ reads.1

not_taken_does_nothing : (a : Action) (m : Mm) (w : Work) → ¬ (a ≡ Take) → plain_by_table a m w ≡ w
not_taken_does_nothing Take m w other = absurd (other refl)
not_taken_does_nothing Discard m w other = refl
not_taken_does_nothing Status98 m w other = refl
not_taken_does_nothing Status43 m w other = refl
not_taken_does_nothing Status47 m w other = refl

-- whether a message that the table doesn't take is permitted or not
not_taken : (test : Bool) (a : Action) (m : Mm) (w : Work) → ¬ (a ≡ Take) → (when test then plain_by_table a m w else w) ≡ w
not_taken true a m w other = when_true true (plain_by_table a m w) w refl ∙ not_taken_does_nothing a m w other
not_taken false a m w other = when_false false (plain_by_table a m w) w refl

pub plain_do_by_kind : (s : MmState) (now : ℕ) (held : List Bool) (octets : List ℕ) → PlainDoByKind s now held octets
unfolding worked ended
plain_do_by_kind s now held octets reads = record {
  permitted = λ m e allowed takes. (
    permitted_kind m allowed,
    done (by_read e
        ∙ when_true (is_plain_allowed m) (plain_by_table (action m w) m w) w allowed ∙ ap (λ (a : Action). plain_by_table a m w) takes),
  );
  not_permitted = λ m e forbidden.
      done (by_read e ∙ when_false (is_plain_allowed m) (plain_by_table (action m w) m w) w forbidden);
  not_taken = λ m e other. done (by_read e ∙ not_taken (is_plain_allowed m) (action m w) m w other);
  unknown_type = λ n e. done (by_read e);
  wrong_part = λ n at e permitted.
      done (by_read e ∙ when_true (is_permitted_type (slice_index_or octets 2 0)) (status cause.INVALID_MANDATORY_INFORMATION w) w permitted);
  other_wrong_part = λ n at e other.
      done (by_read e ∙ when_false (is_permitted_type (slice_index_or octets 2 0)) (status cause.INVALID_MANDATORY_INFORMATION w) w other);
  ignored = λ at e. done (by_read e);
}
  where
    w : Work
    w = started s now held

    by_read : {r : Result Mm MmRefusal} → mm_in octets ≡ r → delivered octets w ≡ plain_read r octets w
    by_read e = are_read octets w reads ∙ ap (λ r. plain_read r octets w) e

    done : {x : Work} → delivered octets w ≡ x → Does s now held (Delivered octets) (λ _. x)
    done e = ap (λ (x : Work). Ok (ended x)) e
