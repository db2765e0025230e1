-- What an SMF keeps between two events: what was configured, the addresses, and of each subscriber what
-- is subscribed and a cell for each PDU session identity. A session and a kept answer are found, and
-- changed, through `cell_of` and `put_cell` alone.
use Rattle.std.specs.Prelude.{ℕ, zero, suc, ◌+◌, ◌-◌, Bool, List, [], ◌∷◌, map, replicate, Option, Some, None, option_map, is_some, slice_index_or, slice_set, if◌then◌else◌}
use Rattle.std.specs.Str.{bytes_eq}
use Rattle.nas_elements.specs.declared.slice.Slice.{Slice}
use Rattle.nas_pools.specs.Pools.{PoolsParts, unused_pools}
use Rattle.smf_core.specs.Config.{SmfBeginnings}
use Rattle.smf_core.specs.Kept.{SeenSession, seen_as}
use Rattle.smf_core.specs.declared.cell.Cell.{Cell}
use Rattle.smf_core.specs.declared.config.Configured.{Configured}
use Rattle.smf_core.specs.declared.config.SmfSubscriber.{SmfSubscriber}
use Rattle.smf_core.specs.declared.subscriber.Subscriber.{Subscriber}

pub record SmfState : Type 0 where
  pub config : Configured
  pub pools : PoolsParts
  pub subscribers : List Subscriber

-- no session, and no answer kept
abbrev pub vacant : Cell
vacant = record { held = None; answer = None }

-- a subscriber of whom nothing came yet
abbrev pub unused : SmfSubscriber → Subscriber
unused s = record { supi = s.supi; dnns = s.dnns; slices = s.slices; cells = replicate 15 vacant }

-- before any event
abbrev pub first : SmfBeginnings → SmfState
first b = record {
  config = b.values;
  pools = unused_pools b.pool b.pool_size b.pool6;
  subscribers = map unused b.subscribers;
}

-- the subscriber of a SUPI
abbrev pub subscriber_in : List ℕ → List Subscriber → Option Subscriber
subscriber_in supi [] = None
subscriber_in supi (s ∷ ss) = if bytes_eq s.supi supi then Some s else subscriber_in supi ss

abbrev pub is_subscriber : List ℕ → SmfState → Bool
is_subscriber supi smf = is_some (subscriber_in supi smf.subscribers)

-- the cell of an identity, 1 to 15
abbrev pub cell_at : ℕ → Option Subscriber → Cell
cell_at psi None = vacant
cell_at psi (Some s) = slice_index_or s.cells (psi - 1) vacant

unfoldable pub cell_of : List ℕ → ℕ → SmfState → Cell
cell_of supi psi smf = cell_at psi (subscriber_in supi smf.subscribers)

-- the subscribers with another cell in its place
abbrev pub with_cell : List ℕ → ℕ → Cell → List Subscriber → List Subscriber
with_cell supi psi cell [] = []
with_cell supi psi cell (s ∷ ss) =
    if bytes_eq s.supi supi then record s { cells = slice_set s.cells (psi - 1) cell } ∷ ss else s ∷ with_cell supi psi cell ss

unfoldable pub put_cell : List ℕ → ℕ → Cell → SmfState → SmfState
put_cell supi psi cell smf = record smf { subscribers = with_cell supi psi cell smf.subscribers }

-- the data networks and the slices that are subscribed
abbrev pub dnns_at : Option Subscriber → List (List ℕ)
dnns_at None = []
dnns_at (Some s) = s.dnns

unfoldable pub dnns_of : List ℕ → SmfState → List (List ℕ)
dnns_of supi smf = dnns_at (subscriber_in supi smf.subscribers)

abbrev pub slices_at : Option Subscriber → List Slice
slices_at None = []
slices_at (Some s) = s.slices

unfoldable pub slices_of : List ℕ → SmfState → List Slice
slices_of supi smf = slices_at (subscriber_in supi smf.subscribers)

-- which sessions there are, in any state
abbrev pub is_held : List ℕ → SmfState → ℕ → Bool
is_held supi smf psi = is_some (cell_of supi psi smf).held

abbrev pub tests_from : ℕ → ℕ → (ℕ → Bool) → List Bool
tests_from zero psi test = []
tests_from (suc n) psi test = test psi ∷ tests_from n (psi + 1) test

unfoldable pub status_of : List ℕ → SmfState → List Bool
status_of supi smf = tests_from 15 1 (is_held supi smf)

-- what can be seen of a session
unfoldable pub session_of : List ℕ → ℕ → SmfState → Option SeenSession
session_of supi psi smf = option_map (seen_as psi) (cell_of supi psi smf).held
