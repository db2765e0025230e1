-- Which transitions end a session's transaction, and which leave its timer running.
use Rattle.std.proofs.Common.{◌≡◌, refl, ℕ, List, None}
use Rattle.std.specs.Prelude.{◌==◌}
use Rattle.nas_base.proofs.Branching.{when_holds}
use Rattle.nas_base.specs.declared.sm_cause.TheConstants as cause
use Rattle.nas_qos.specs.Rules.{QosRule}
use Rattle.ue_sm.specs.Cells.{active_unless_unknown, answering, completed, refused, rejected, resent, transaction_of, unanswered}
use Rattle.ue_sm.specs.TimerLaws.{no_timer, running_in}
use Rattle.ue_sm.specs.declared.cells.Answered.{Answered}
use Rattle.ue_sm.specs.declared.cells.Cell.{Cell}
use Rattle.ue_sm.specs.declared.cells.Cell.TheVariants.{Inactive, ActivePending, Active, ModificationPending, InactivePending}
use Rattle.ue_sm.specs.declared.cells.Held.{Held}

unless_unknown_ends : (n : ℕ) (held : Held) → transaction_of (active_unless_unknown n held) ≡ None
unless_unknown_ends n held =
    when_holds (λ (c : Cell). transaction_of c ≡ None) (n == cause.INVALID_PDU_SESSION_IDENTITY) Inactive (Active held)
    (λ _. refl) (λ _. refl)

pub rejected_ends : (n : ℕ) (c : Cell) → transaction_of (rejected n c) ≡ None
rejected_ends n Inactive = refl
rejected_ends n (ActivePending t) = refl
rejected_ends n (Active held) = refl
rejected_ends n (ModificationPending held t) = unless_unknown_ends n held
rejected_ends n (InactivePending held t) = unless_unknown_ends n held

pub completed_ends : (a : Answered) (rules : List QosRule) (c : Cell) → transaction_of (completed a rules c) ≡ None
completed_ends a rules Inactive = refl
completed_ends a rules (ActivePending t) = refl
completed_ends a rules (Active held) = refl
completed_ends a rules (ModificationPending held t) = refl
completed_ends a rules (InactivePending held t) = refl

pub refused_ends : (a : Answered) (c : Cell) → transaction_of (refused a c) ≡ None
refused_ends a Inactive = refl
refused_ends a (ActivePending t) = refl
refused_ends a (Active held) = refl
refused_ends a (ModificationPending held t) = refl
refused_ends a (InactivePending held t) = refl

pub unanswered_ends : (c : Cell) → transaction_of (unanswered c) ≡ None
unanswered_ends Inactive = refl
unanswered_ends (ActivePending t) = refl
unanswered_ends (Active held) = refl
unanswered_ends (ModificationPending held t) = refl
unanswered_ends (InactivePending held t) = refl

-- no timer runs without a transaction
pub none_runs : (c : Cell) → transaction_of c ≡ None → running_in c ≡ no_timer
none_runs Inactive none = refl
none_runs (ActivePending t) none = cc
none_runs (Active held) none = refl
none_runs (ModificationPending held t) none = cc
none_runs (InactivePending held t) none = cc

pub answering_runs : (a : Answered) (c : Cell) → running_in (answering a c) ≡ running_in c
answering_runs a Inactive = refl
answering_runs a (ActivePending t) = refl
answering_runs a (Active held) = refl
answering_runs a (ModificationPending held t) = refl
answering_runs a (InactivePending held t) = refl

pub resent_runs : (c : Cell) → running_in (resent c) ≡ running_in c
resent_runs Inactive = refl
resent_runs (ActivePending t) = refl
resent_runs (Active held) = refl
resent_runs (ModificationPending held t) = refl
resent_runs (InactivePending held t) = refl
