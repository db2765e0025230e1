-- A step while it goes on, for one subscriber: what is kept by now, the moment, and what was said so far.
use Rattle.std.specs.Prelude.{ℕ, List, [], ◌∷◌, ◌++◌, Option, Some, None}
use Rattle.nas_base.specs.Branches.{per}
use Rattle.nas_elements.specs.declared.address.Address.{Address}
use Rattle.nas_pools.specs.Pools.{PoolsParts, freed}
use Rattle.nas_timers.specs.Durations.{deadline_after, duration_of}
use Rattle.nas_timers.specs.declared.timer_id.TimerId.{TimerId}
use Rattle.sm_messages.specs.declared.message.Sm.{Sm}
use Rattle.sm_messages.specs.declared.message.Sm.TheVariants as sm
use Rattle.sm_messages.specs.declared.message.SmFrame.{SmFrame}
use Rattle.smf_core.specs.State.{SmfState, cell_of, put_cell}
use Rattle.smf_core.specs.declared.acts.Act.{Act}
use Rattle.smf_core.specs.declared.acts.Act.TheVariants.{Down, Fence, Start, Stop}
use Rattle.smf_core.specs.declared.cell.Cell.{Cell}
use Rattle.smf_core.specs.declared.held.Held.{Held}

pub record Working : Type 0 where
  pub smf : SmfState
  pub supi : List ℕ
  pub moment : ℕ
  pub acts : List Act

-- the subscriber's cell of an identity, and another in its place
abbrev pub cell : ℕ → Working → Cell
cell psi w = cell_of w.supi psi w.smf

abbrev pub put : ℕ → Cell → Working → Working
put psi c w = record w { smf = put_cell w.supi psi c w.smf }

-- the session of an identity, if there is one; it is kept so from now on; it is kept no longer
abbrev pub held : ℕ → Working → Option Held
held psi w = (cell psi w).held

abbrev pub hold : ℕ → Held → Working → Working
hold psi h w = put psi (record (cell psi w) { held = Some h }) w

abbrev pub vacate : ℕ → Working → Working
vacate psi w = put psi (record (cell psi w) { held = None }) w

-- the addresses after one was taken, or given back
abbrev pub with_pools : PoolsParts → Working → Working
with_pools pools w = record w { smf = record w.smf { pools = pools } }

abbrev pub give : Address → Working → Working
give address w = with_pools (freed address w.smf.pools) w

abbrev pub free : Option Address → Working → Working
free address w = per address w (λ (a : Address). give a w)

-- something is said
abbrev pub act : Act → Working → Working
act a w = record w { acts = w.acts ++ a ∷ [] }

-- a message under the identities of its head
abbrev pub frame : ℕ → ℕ → Sm → SmFrame
frame psi pti body = record { psi = psi; pti = pti; body = body }

-- a message goes down to the handset
abbrev pub say_frame : ℕ → SmFrame → Working → Working
say_frame psi message w = act (Down psi message) w

abbrev pub say : ℕ → ℕ → Sm → Working → Working
say psi pti body w = say_frame psi (frame psi pti body) w

-- 5GSM STATUS with this cause, which tells the identities back (TS 24.501 clause 7.3)
abbrev pub status : ℕ → ℕ → ℕ → Working → Working
status psi pti n w = say psi pti (sm.FiveGsmStatus (record { cause = n })) w

-- the AMF is to run a security mode procedure
abbrev pub fence : Working → Working
fence w = act Fence w

-- a timer is started for its duration, or stopped
abbrev pub start : TimerId → Working → Working
start id w = act (Start id (deadline_after w.moment (duration_of id w.smf.config.durations))) w

abbrev pub stop : TimerId → Working → Working
stop id w = act (Stop id) w

-- A command is given out: the session is kept with it, it goes down, and its timer is started.
abbrev pub give_out : SmFrame → TimerId → ℕ → Held → Working → Working
give_out message timer psi h w = start timer (say_frame psi message (hold psi h w))

-- the timer of the command that is open, if there is one
abbrev pub stop_timer : Option TimerId → Working → Working
stop_timer timer w = per timer w (λ (id : TimerId). stop id w)
