-- What an SMF is made with.
use Rattle.std.specs.Prelude.{◌≡◌, ℕ, Bool, true, not, ◌==◌, ◌&&◌, nat_le, List, [], ◌∷◌, length, Option, Some, None}
use Rattle.std.specs.List.{list_all}
use Rattle.std.specs.Str.{bytes_eq}
use Rattle.nas_pools.specs.Config.{Pool6Parts, is_pool_size, pool_fits}
use Rattle.nas_pools.specs.Kinds.{DnnKindParts}
use Rattle.smf_core.specs.declared.config.Configured.{Configured}
use Rattle.smf_core.specs.declared.config.SmfSubscriber.{SmfSubscriber}

-- what stays as it was configured, the pools of addresses, and the subscribers
pub record SmfBeginnings : Type 0 where
  pub values : Configured
  pub pool : List ℕ
  pub pool_size : ℕ
  pub pool6 : Option Pool6Parts
  pub subscribers : List SmfSubscriber

-- 1 to 64 subscribers, no SUPI twice
abbrev pub is_another : SmfSubscriber → List SmfSubscriber → Bool
is_another s others = list_all (λ (other : SmfSubscriber). not (bytes_eq other.supi s.supi)) others

abbrev pub are_distinct : List SmfSubscriber → Bool
are_distinct [] = true
are_distinct (s ∷ others) = is_another s others && are_distinct others

abbrev pub are_subscribers : List SmfSubscriber → Bool
are_subscribers subscribers =
    nat_le 1 (length subscribers) && nat_le (length subscribers) 64 && are_distinct subscribers

-- without a pool of interface identifiers a data network has IPv4 alone
abbrev pub is_v4_alone : DnnKindParts → Bool
is_v4_alone k = k.kinds == 1

abbrev pub kinds_fit : Option Pool6Parts → List DnnKindParts → Bool
kinds_fit None kinds = list_all is_v4_alone kinds
kinds_fit (Some pool) kinds = true

-- 1 to 65,536 IPv4 addresses, the last of which is 255.255.255.255 at most
pub record IsSmf (b : SmfBeginnings) : Type 0 where
  pub addresses : is_pool_size b.pool_size ≡ true
  pub pool_end : pool_fits b.pool b.pool_size ≡ true
  pub networks : kinds_fit b.pool6 b.values.kinds ≡ true
