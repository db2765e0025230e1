-- Security contexts.
use Rattle.std.specs.Prelude.{◌≡◌, ◌⊎◌, ℕ, Bool, ◌==◌, ◌&&◌, List}
use Rattle.std.specs.Str.{bytes_eq}
use Rattle.key_chain.specs.declared.nas.NasKeys.{NasKeys}
use Rattle.nas_elements.specs.Algs.{Algorithms}
use Rattle.nas_security.specs.declared.challenges.Challenge.{Challenge}

-- two names of a challenge are the same
abbrev pub is_challenge : Challenge → Challenge → Bool
is_challenge one other = one.sqn == other.sqn && bytes_eq one.rand other.rand

-- a security context, with the next count of each direction
pub record SecurityContext : Type 0 where
  pub challenge : Challenge
  pub ksi : ℕ
  pub kamf : List ℕ
  pub algs : Algorithms
  pub keys : NasKeys
  pub up : ℕ
  pub down : ℕ

-- the algorithms that are used: 128-NIA2, and 128-NEA2 or no ciphering
abbrev pub AreInUse : Algorithms → Type 0
AreInUse algs = (algs.nia ≡ 2) × ((algs.nea ≡ 0) ⊎ (algs.nea ≡ 2))
