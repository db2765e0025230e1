-- The timers of the handset's transactions (TS 24.501 clauses 6.4.1.6, 6.4.2.5, 6.4.3.5 and 10.3).
use Rattle.std.specs.Prelude.{ℕ, nat_lt, Bool, true, false}
use Rattle.nas_base.specs.Branches.{per, when◌then◌else◌}
use Rattle.nas_timers.specs.declared.timer_id.TimerId.{TimerId}
use Rattle.nas_timers.specs.declared.timer_id.TimerId.TheVariants.{T3510, T3516, T3517, T3521, T3522, T3550, T3555, T3560, T3580, T3581, T3582, T3591, T3592}
use Rattle.ue_sm.specs.Cells.{resent, transaction_of, unanswered}
use Rattle.ue_sm.specs.Transactions.{OpenTransaction}
use Rattle.ue_sm.specs.Work.{cell, put, send, start}
use Rattle.ue_sm.specs.declared.cells.Cell.{Cell}
use Rattle.ue_sm.specs.declared.cells.Cell.TheVariants.{Inactive, ActivePending, Active, ModificationPending, InactivePending}
use Rattle.ue_sm.specs.declared.work.Work.{Work}

-- whether it is establishment, modification or release that is under way
abbrev pub is_establishing : Cell → Bool
is_establishing Inactive = false
is_establishing (ActivePending t) = true
is_establishing (Active held) = false
is_establishing (ModificationPending held t) = false
is_establishing (InactivePending held t) = false

abbrev pub is_modifying : Cell → Bool
is_modifying Inactive = false
is_modifying (ActivePending t) = false
is_modifying (Active held) = false
is_modifying (ModificationPending held t) = true
is_modifying (InactivePending held t) = false

abbrev pub is_releasing : Cell → Bool
is_releasing Inactive = false
is_releasing (ActivePending t) = false
is_releasing (Active held) = false
is_releasing (ModificationPending held t) = false
is_releasing (InactivePending held t) = true

-- A request is sent again four times, under the same identity; at the fifth expiry its transaction ends.
abbrev pub unheard : ℕ → TimerId → OpenTransaction → Work → Work
unheard psi id t w =
    when nat_lt t.sendings 5 then start id (send psi t (put psi (resent (cell psi w)) w))
    else put psi (unanswered (cell psi w)) w

abbrev pub awaited : Bool → ℕ → TimerId → Work → Work
awaited is_open psi id w =
    when is_open then per (transaction_of (cell psi w)) w (λ (t : OpenTransaction). unheard psi id t w) else w

-- a timer of the handset's sessions expired; one whose transaction has ended finds none
unfoldable pub expired : TimerId → Work → Work
expired (T3580 psi) w = awaited (is_establishing (cell psi w)) psi (T3580 psi) w
expired (T3581 psi) w = awaited (is_modifying (cell psi w)) psi (T3581 psi) w
expired (T3582 psi) w = awaited (is_releasing (cell psi w)) psi (T3582 psi) w
expired T3510 w = w
expired T3516 w = w
expired T3517 w = w
expired T3521 w = w
expired T3522 w = w
expired T3550 w = w
expired T3555 w = w
expired T3560 w = w
expired (T3591 psi) w = w
expired (T3592 psi) w = w
