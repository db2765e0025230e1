-- What the handset's mobility management tells its sessions.
use Rattle.std.specs.Prelude.{ℕ, Bool, true, not, ◌==◌, ◌&&◌, nat_le, List, length}
use Rattle.nas_base.specs.Branches.{per, when◌then◌else◌}
use Rattle.nas_base.specs.Values.{psi_from}
use Rattle.nas_elements.specs.Status.{has}
use Rattle.ue_sm.specs.Cells.{abandoned, is_held, transaction_of, unanswered}
use Rattle.ue_sm.specs.Delivery.{octet_at}
use Rattle.ue_sm.specs.State.{SmState, cell_of, every, put_cell}
use Rattle.ue_sm.specs.Transactions.{OpenTransaction}
use Rattle.ue_sm.specs.Work.{cell, ended, stopped}
use Rattle.ue_sm.specs.declared.cells.Cell.{Cell}
use Rattle.ue_sm.specs.declared.cells.Cell.TheVariants.{Inactive}
use Rattle.ue_sm.specs.declared.mobility.Ending.{Ending}
use Rattle.ue_sm.specs.declared.mobility.Ending.TheVariants.{Abandon, Clear, Keep}
use Rattle.ue_sm.specs.declared.work.Work.{Work}

-- a context was taken into use, or the handset was restarted: the identities of transactions begin anew
unfoldable pub renewed : Work → Work
renewed w = record w { state = record w.state { next = 1 } }

-- Which sessions an ending concerns. Where all transactions are abandoned, or all sessions are
-- cleared, it is each; where the network told which sessions it has, it is each that the handset has
-- and the network hasn't (clause 5.5.1.3.4).
abbrev pub concerns : Ending → ℕ → Cell → Bool
concerns Abandon psi c = true
concerns Clear psi c = true
concerns (Keep held) psi c = not (has psi held) && is_held c

-- what it leaves of such a session
abbrev pub left_of : Ending → Cell → Cell
left_of Abandon c = abandoned c
left_of Clear c = Inactive
left_of (Keep held) c = Inactive

-- first the timers of the transactions that end are stopped, then the sessions are what is left of them
abbrev pub stop_one : Ending → ℕ → Work → Work
stop_one ending psi w = when concerns ending psi (cell psi w) then stopped psi w else w

abbrev pub leave_one : Ending → ℕ → SmState → SmState
leave_one ending psi s =
    when concerns ending psi (cell_of psi s) then put_cell psi (left_of ending (cell_of psi s)) s else s

abbrev pub all_stopped : Ending → Work → Work
all_stopped ending w = every (stop_one ending) w

abbrev pub all_left : Ending → SmState → SmState
all_left ending s = every (leave_one ending) s

unfoldable pub left_by : Ending → Work → Work
left_by ending w = record (all_stopped ending w) { state = all_left ending w.state }

-- A message of a session that wasn't forwarded ends the transaction whose identity is in its head (clause 5.4.5.3.1).
-- What kind of message it is isn't looked at.
abbrev pub has_head : List ℕ → Bool
has_head octets = nat_le 4 (length octets) && octet_at octets 0 == 0x2e

abbrev pub unforwarded : ℕ → ℕ → Work → Work
unforwarded psi pti w =
    per (transaction_of (cell psi w)) w (λ (t : OpenTransaction).
    when t.request.pti == pti then ended psi (unanswered (cell psi w)) w else w)

unfoldable pub not_forwarded : List ℕ → Work → Work
not_forwarded octets w =
    when has_head octets
    then per (psi_from (octet_at octets 1)) w (λ (psi : ℕ). unforwarded psi (octet_at octets 2) w) else w
