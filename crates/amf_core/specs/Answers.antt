-- What the answer to a challenge is compared with.
use Rattle.std.specs.Prelude.{◌≡◌, ◌⊎◌, ℕ, List}
use Rattle.nas_security.specs.declared.challenges.Challenge.{Challenge}

-- the numbers that a challenge's context is named by, AUTN, the right answer, the key that comes of it, and the ciphering
pub record AuthenticationValues : Type 0 where
  pub challenge : Challenge
  pub ksi : ℕ
  pub autn : List ℕ
  pub res_star : List ℕ
  pub kamf : List ℕ
  pub nea : ℕ

-- none, or 128-NEA2
abbrev pub IsCiphering : ℕ → Type 0
IsCiphering nea = (nea ≡ 0) ⊎ (nea ≡ 2)
