-- What the definitions of this crate say together.
use Rattle.std.specs.Prelude.{◌≡◌, ◌↔◌, ℕ, List, Some, None}
use Rattle.nas_base.specs.declared.count.Dir.{Dir}
use Rattle.nas_security.specs.Contexts.{SecurityContext}
use Rattle.nas_security.specs.Passing.{Passes}
use Rattle.mm_entity.specs.Opening.{Opened, opened}

-- no count, header type and message are there as whose frame these octets pass under a context
abbrev pub NothingPasses : SecurityContext → Dir → List ℕ → Type 0
NothingPasses context dir octets = (count header : ℕ) (message : List ℕ) → ¬ (Passes context dir octets count header message)

-- What an end opens is what passes. It opens octets to the count and the message as whose frame they pass, and to nothing exactly where
-- nothing passes.
pub record IsOpenedWherePassing (context : SecurityContext) (dir : Dir) (octets : List ℕ) : Type 0 where
  pub something :
      (o : Opened) → (opened context dir octets ≡ Some o) ↔ ((header : ℕ) × Passes context dir octets o.count header o.message)
  pub nothing : (opened context dir octets ≡ None) ↔ NothingPasses context dir octets
