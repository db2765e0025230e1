-- What holds of the sessions of every SMF: which addresses they have, and what their open commands are.
use Rattle.std.specs.Prelude.{◌≡◌, ◌≤◌, ℕ, ◌+◌, Bool, true, ◌==◌, List, [], ◌∷◌, length, Option, Some, None, if◌then◌else◌}
use Rattle.std.specs.List.{list_all}
use Rattle.nas_elements.specs.declared.address.Address.{Address}
use Rattle.nas_pools.specs.Families.{is_taken_at}
use Rattle.nas_pools.specs.PoolLaws.{is_v4, is_v6}
use Rattle.nas_pools.specs.Pools.{ArePools}
use Rattle.nas_timers.specs.declared.timer_id.TimerId.{TimerId}
use Rattle.nas_timers.specs.declared.timer_id.TimerId.TheVariants.{T3591, T3592}
use Rattle.smf_core.specs.State.{SmfState}
use Rattle.smf_core.specs.declared.cell.Cell.{Cell}
use Rattle.smf_core.specs.declared.held.Command.{Command}
use Rattle.smf_core.specs.declared.held.Held.{Held}
use Rattle.smf_core.specs.declared.held.Phase.{Phase}
use Rattle.smf_core.specs.declared.held.Phase.TheVariants.{Active, Modifying, Settling, Releasing}
use Rattle.smf_core.specs.declared.subscriber.Subscriber.{Subscriber}

-- the address of a session, if there is one
abbrev pub address_of : Option Held → Option Address
address_of None = None
address_of (Some h) = h.session.address

-- how many of these sessions have an address of which this holds
abbrev pub one_if : Bool → ℕ
one_if is = if is then 1 else 0

abbrev pub has_such : (Address → Bool) → Option Address → ℕ
has_such test None = 0
has_such test (Some address) = one_if (test address)

abbrev pub holders_in : (Address → Bool) → List Cell → ℕ
holders_in test [] = 0
holders_in test (c ∷ cs) = has_such test (address_of c.held) + holders_in test cs

abbrev pub holders : (Address → Bool) → List Subscriber → ℕ
holders test [] = 0
holders test (s ∷ ss) = holders_in test s.cells + holders test ss

-- An open command has its session's own timer, T3591 of a MODIFICATION COMMAND and T3592 of a RELEASE
-- COMMAND, and was sent once to five times.
pub record IsOpen (timer : TimerId) (command : Command) : Type 0 where
  pub own : command.timer ≡ timer
  pub sent : 1 ≤ command.sendings
  pub left : command.sendings ≤ 5

abbrev pub IsOpenIn : ℕ → Phase → Type 0
IsOpenIn psi (Active last) = Unit {0}
IsOpenIn psi (Modifying m) = IsOpen (T3591 psi) m.command
IsOpenIn psi (Settling last) = Unit {0}
IsOpenIn psi (Releasing command) = IsOpen (T3592 psi) command

abbrev pub HasOwnCommand : ℕ → Option Held → Type 0
HasOwnCommand psi None = Unit {0}
HasOwnCommand psi (Some h) = IsOpenIn psi h.phase

abbrev pub HaveOwnCommandsFrom : ℕ → List Cell → Type 0
HaveOwnCommandsFrom psi [] = Unit {0}
HaveOwnCommandsFrom psi (c ∷ cs) = HasOwnCommand psi c.held × HaveOwnCommandsFrom (psi + 1) cs

abbrev pub HaveOwnCommands : List Subscriber → Type 0
HaveOwnCommands [] = Unit {0}
HaveOwnCommands (s ∷ ss) = HaveOwnCommandsFrom 1 s.cells × HaveOwnCommands ss

-- a cell for each identity
abbrev pub is_whole : Subscriber → Bool
is_whole s = length s.cells == 15

-- An address of either family, by its number, is that of one session where it is taken, and of none where it isn't. So
-- no address is that of two sessions, and an address is taken exactly while a session has it.
pub record AreSessions (smf : SmfState) : Type 0 where
  pub pools : ArePools smf.pools
  pub v4 : (x : ℕ) → holders (is_v4 x) smf.subscribers ≡ one_if (is_taken_at x smf.pools.v4)
  pub v6 : (x : ℕ) → holders (is_v6 x) smf.subscribers ≡ one_if (is_taken_at x smf.pools.v6)
  pub commands : HaveOwnCommands smf.subscribers
  pub whole : list_all is_whole smf.subscribers ≡ true
