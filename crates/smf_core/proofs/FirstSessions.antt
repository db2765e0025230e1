-- Before any event no session has an address, and none has a command.
use Rattle.std.proofs.Common.{◌≡◌, refl, sym, ◌∙◌, Bool, true, false, ◌&&◌, ℕ, zero, suc, ◌+◌, List, [], ◌∷◌, map, replicate, arith, subst}
use Rattle.std.specs.List.{list_all}
use Rattle.nas_elements.specs.declared.address.Address.{Address}
use Rattle.nas_pools.specs.Config.{Pool6Parts}
use Rattle.nas_pools.specs.Families.{is_taken_at, unused_v6}
use Rattle.nas_pools.specs.PoolLaws.{is_v4, is_v6}
use Rattle.nas_pools.specs.Pools.{ArePools, PoolsParts, unused_pools}
use Rattle.std.specs.Prelude.{Option, Some, None, nat_le}
use Rattle.smf_core.proofs.Holders.{none_unused}
use Rattle.smf_core.specs.Sessions.{AreSessions, HaveOwnCommands, HaveOwnCommandsFrom, holders, holders_in, is_whole, one_if}
use Rattle.smf_core.specs.State.{unused, vacant}
use Rattle.smf_core.specs.declared.config.Configured.{Configured}
use Rattle.smf_core.specs.declared.config.SmfSubscriber.{SmfSubscriber}
use Rattle.smf_core.specs.declared.subscriber.Subscriber.{Subscriber}

no_holders : (test : Address → Bool) (ss : List SmfSubscriber) → holders test (map unused ss) ≡ 0
no_holders test [] = refl
no_holders test (s ∷ ss) =
    let its : holders_in test (replicate 15 vacant) ≡ 0 = none_unused test 15 in
    let rest = no_holders test ss in omega (arith, its, rest)

never : (b : Bool) → one_if (b && false) ≡ 0
never true = refl
never false = refl

none_taken_v6 : (x : ℕ) (p : Option Pool6Parts) → one_if (is_taken_at x (unused_v6 p)) ≡ 0
none_taken_v6 x None = never (nat_le 0 x)
none_taken_v6 x (Some pool) = never (nat_le pool.first x)

no_commands_from : (psi n : ℕ) → HaveOwnCommandsFrom psi (replicate n vacant)
no_commands_from psi zero = tt
no_commands_from psi (suc n) = (tt, no_commands_from (psi + 1) n)

no_commands : (ss : List SmfSubscriber) → HaveOwnCommands (map unused ss)
no_commands [] = tt
no_commands (s ∷ ss) = (no_commands_from 1 15, no_commands ss)

all_whole : (ss : List SmfSubscriber) → list_all is_whole (map unused ss) ≡ true
all_whole [] = refl
all_whole (s ∷ ss) = all_whole ss

sessions_first : (config : Configured) (first4 : List ℕ) (size4 : ℕ) (pool6 : Option Pool6Parts) (configured : List SmfSubscriber)
    → ArePools (unused_pools first4 size4 pool6)
    → AreSessions (record { config = config; pools = unused_pools first4 size4 pool6; subscribers = map unused configured })
sessions_first config first4 size4 pool6 configured are = record {
  pools = are;
  v4 = λ x. no_holders (is_v4 x) configured ∙ sym (never (nat_le (unused_pools first4 size4 pool6).v4.first x));
  v6 = λ x. no_holders (is_v6 x) configured ∙ sym (none_taken_v6 x pool6);
  commands = no_commands configured;
  whole = all_whole configured;
}

pub new_sessions : (config : Configured) (first4 : List ℕ) (size4 : ℕ) (pool6 : Option Pool6Parts) (configured : List SmfSubscriber) (pools : PoolsParts)
    (subscribers : List Subscriber) → pools ≡ unused_pools first4 size4 pool6 → subscribers ≡ map unused configured
    → ArePools pools
    → AreSessions (record { config = config; pools = pools; subscribers = subscribers })
new_sessions config first4 size4 pool6 configured pools subscribers e f are =
    subst (λ (p : PoolsParts). AreSessions (record { config = config; pools = p; subscribers = subscribers })) (sym e)
    (subst (λ (ss : List Subscriber). AreSessions (record { config = config; pools = unused_pools first4 size4 pool6; subscribers = ss })) (sym f)
    (sessions_first config first4 size4 pool6 configured (subst ArePools e are)))
