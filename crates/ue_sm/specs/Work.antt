-- A step while it goes on: the moment that it was given, what is kept, and what goes out so far.
use Rattle.std.specs.Prelude.{ℕ, ◌+◌, List, [], ◌∷◌, ◌++◌, Option, None}
use Rattle.nas_base.specs.Branches.{per}
use Rattle.nas_timers.specs.Durations.{deadline_after, duration_of}
use Rattle.nas_timers.specs.declared.timer_id.TimerId.{TimerId}
use Rattle.sm_messages.specs.Messages.{spelling}
use Rattle.sm_messages.specs.declared.message.Sm.{Sm}
use Rattle.sm_messages.specs.declared.message.Sm.TheVariants as sm
use Rattle.ue_sm.specs.Cells.{timer_of}
use Rattle.ue_sm.specs.State.{cell_of, put_cell}
use Rattle.ue_sm.specs.Transactions.{OpenTransaction, opened}
use Rattle.ue_sm.specs.declared.cells.Cell.{Cell}
use Rattle.ue_sm.specs.declared.outs.SmOut.{SmOut}
use Rattle.ue_sm.specs.declared.outs.SmOut.TheVariants.{Carry, Start, Stop}
use Rattle.ue_sm.specs.declared.work.Work.{Work}

-- one more goes out
abbrev pub tell : SmOut → Work → Work
tell out w = record w { outs = w.outs ++ out ∷ [] }

-- a message that answers, under the identities of what it answers
abbrev pub say : ℕ → ℕ → Sm → Work → Work
say psi pti message w = tell (Carry psi None (spelling (record { psi = psi; pti = pti; body = message }))) w

-- 5GSM STATUS (clause 6.5)
abbrev pub status : ℕ → ℕ → ℕ → Work → Work
status psi pti n w = say psi pti (sm.FiveGsmStatus (record { cause = n })) w

-- a timer is started for its duration, or stopped
abbrev pub start : TimerId → Work → Work
start id w = tell (Start id (deadline_after w.moment (duration_of id w.state.durations))) w

abbrev pub stop : TimerId → Work → Work
stop id w = tell (Stop id) w

-- the session of an identity, and another in its place
abbrev pub cell : ℕ → Work → Cell
cell psi w = cell_of psi w.state

abbrev pub put : ℕ → Cell → Work → Work
put psi new w = record w { state = put_cell psi new w.state }

-- the timer of a session's transaction is stopped, if one is open
abbrev pub stopped : ℕ → Work → Work
stopped psi w = per (timer_of psi (cell psi w)) w (λ (id : TimerId). stop id w)

-- the session's transaction ends, which leaves this
abbrev pub ended : ℕ → Cell → Work → Work
ended psi new w = put psi new (stopped psi w)

-- A transaction begins: it has the next identity, which none after it has; its request is
-- sent, and its timer runs (clause 6.2.1).
abbrev pub request : ℕ → Option (List ℕ) → Sm → Work → OpenTransaction
request psi dnn message w = opened (record { psi = psi; pti = w.state.next; body = message }) dnn

abbrev pub send : ℕ → OpenTransaction → Work → Work
send psi t w = tell (Carry psi t.dnn (spelling t.request)) w

abbrev pub identified : Work → Work
identified w = record w { state = record w.state { next = w.state.next + 1 } }

abbrev pub requested : ℕ → TimerId → OpenTransaction → Work → Work
requested psi id t w = start id (send psi t (identified w))

abbrev pub begun : ℕ → TimerId → Cell → OpenTransaction → Work → Work
begun psi id new t w = put psi new (requested psi id t w)
