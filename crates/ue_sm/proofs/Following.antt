-- What a session's transaction becomes in a transition: it is the one that was open, or none is open.
use Rattle.std.proofs.Common.{◌≡◌, ◌∙◌, sym, ap, refl, ℕ, List, Some, None}
use Rattle.nas_base.proofs.Branching.{when_holds}
use Rattle.nas_base.specs.declared.sm_cause.TheConstants as cause
use Rattle.std.specs.Prelude.{◌==◌}
use Rattle.nas_qos.specs.Rules.{QosRule}
use Rattle.ue_sm.specs.Cells.{abandoned, active_unless_unknown, answering, completed, modified, refused, rejected, resent, transaction_of, unanswered, with_answer}
use Rattle.ue_sm.specs.Laws.{WasOpen}
use Rattle.ue_sm.specs.Transactions.{OpenTransaction, sent_again}
use Rattle.ue_sm.specs.declared.cells.Answered.{Answered}
use Rattle.ue_sm.specs.declared.cells.Cell.{Cell}
use Rattle.ue_sm.specs.declared.cells.Cell.TheVariants.{Inactive, ActivePending, Active, ModificationPending, InactivePending}
use Rattle.ue_sm.specs.declared.cells.Held.{Held}

abbrev pub Follows : Cell → Cell → Type 0
Follows before after = (t : OpenTransaction) → transaction_of after ≡ Some t → WasOpen before t

-- none is open
pub none_follows : (before after : Cell) → transaction_of after ≡ None → Follows before after
none_follows before after none t some = let clash : None ≡ Some t = sym none ∙ some in cc

-- one is, and its request is that of the one before
pub one_follows : (before after : Cell) (earlier later : OpenTransaction) → transaction_of before ≡ Some earlier
    → transaction_of after ≡ Some later → later.request ≡ earlier.request → Follows before after
one_follows before after earlier later was is same t some =
    let both : Some t ≡ Some later = sym some ∙ is in
    let e : t ≡ later = cc in
    (earlier, was, ap (λ (x : OpenTransaction). x.request) e ∙ same)

pub same_follows : (c : Cell) → Follows c c
same_follows c t some = (t, some, refl)

pub unanswered_follows : (c : Cell) → Follows c (unanswered c)
unanswered_follows Inactive = none_follows Inactive Inactive refl
unanswered_follows (ActivePending t) = none_follows (ActivePending t) Inactive refl
unanswered_follows (Active held) = none_follows (Active held) (Active held) refl
unanswered_follows (ModificationPending held t) = none_follows (ModificationPending held t) (Active held) refl
unanswered_follows (InactivePending held t) = none_follows (InactivePending held t) Inactive refl

pub abandoned_follows : (c : Cell) → Follows c (abandoned c)
abandoned_follows Inactive = none_follows Inactive Inactive refl
abandoned_follows (ActivePending t) = none_follows (ActivePending t) Inactive refl
abandoned_follows (Active held) = none_follows (Active held) (Active held) refl
abandoned_follows (ModificationPending held t) = none_follows (ModificationPending held t) (Active held) refl
abandoned_follows (InactivePending held t) = none_follows (InactivePending held t) (Active held) refl

pub resent_follows : (c : Cell) → Follows c (resent c)
resent_follows Inactive = none_follows Inactive Inactive refl
resent_follows (ActivePending t) =
    one_follows (ActivePending t) (ActivePending (sent_again t)) t (sent_again t) refl refl refl
resent_follows (Active held) = none_follows (Active held) (Active held) refl
resent_follows (ModificationPending held t) =
    one_follows (ModificationPending held t) (ModificationPending held (sent_again t)) t (sent_again t) refl refl refl
resent_follows (InactivePending held t) =
    one_follows (InactivePending held t) (InactivePending held (sent_again t)) t (sent_again t) refl refl refl

unless_unknown_follows : (before : Cell) (n : ℕ) (held : Held) → Follows before (active_unless_unknown n held)
unless_unknown_follows before n held =
    when_holds (λ (c : Cell). Follows before c) (n == cause.INVALID_PDU_SESSION_IDENTITY) Inactive (Active held)
    (λ _. none_follows before Inactive refl) (λ _. none_follows before (Active held) refl)

pub rejected_follows : (n : ℕ) (c : Cell) → Follows c (rejected n c)
rejected_follows n Inactive = same_follows Inactive
rejected_follows n (ActivePending t) = none_follows (ActivePending t) Inactive refl
rejected_follows n (Active held) = same_follows (Active held)
rejected_follows n (ModificationPending held t) = unless_unknown_follows (ModificationPending held t) n held
rejected_follows n (InactivePending held t) = unless_unknown_follows (InactivePending held t) n held

pub answering_follows : (a : Answered) (c : Cell) → Follows c (answering a c)
answering_follows a Inactive = same_follows Inactive
answering_follows a (ActivePending t) = same_follows (ActivePending t)
answering_follows a (Active held) = none_follows (Active held) (Active (with_answer a held)) refl
answering_follows a (ModificationPending held t) =
    one_follows (ModificationPending held t) (ModificationPending (with_answer a held) t) t t refl refl refl
answering_follows a (InactivePending held t) = same_follows (InactivePending held t)

pub completed_follows : (a : Answered) (rules : List QosRule) (c : Cell) → Follows c (completed a rules c)
completed_follows a rules Inactive = same_follows Inactive
completed_follows a rules (ActivePending t) = none_follows (ActivePending t) Inactive refl
completed_follows a rules (Active held) = none_follows (Active held) (Active (modified a rules held)) refl
completed_follows a rules (ModificationPending held t) =
    none_follows (ModificationPending held t) (Active (modified a rules held)) refl
completed_follows a rules (InactivePending held t) =
    none_follows (InactivePending held t) (Active (modified a rules held)) refl

pub refused_follows : (a : Answered) (c : Cell) → Follows c (refused a c)
refused_follows a Inactive = same_follows Inactive
refused_follows a (ActivePending t) = none_follows (ActivePending t) Inactive refl
refused_follows a (Active held) = none_follows (Active held) (Active (with_answer a held)) refl
refused_follows a (ModificationPending held t) =
    none_follows (ModificationPending held t) (Active (with_answer a held)) refl
refused_follows a (InactivePending held t) = none_follows (InactivePending held t) (Active (with_answer a held)) refl
