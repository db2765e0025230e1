-- What protecting a message answers.
use Rattle.std.specs.Prelude.{◌≡◌, ◌<◌, ◌+◌, ◌^◌, ℕ, List, [], Result, Ok, Err}
use Rattle.nas_base.specs.declared.count.Dir.{Dir}
use Rattle.nas_security.specs.Contexts.{SecurityContext}
use Rattle.nas_security.specs.Counts.{next_count, with_next}
use Rattle.nas_security.specs.Frame.{frame}
use Rattle.nas_security.specs.declared.frames.Spent.{Spent}

-- The message's frame at the next count was written, and the next count is one more; or no count is left, and nothing changed.
abbrev pub Protects : SecurityContext → Dir → ℕ → List ℕ → SecurityContext → List ℕ → Result ℕ Spent → Type 0
Protects old dir header plain new out (Ok count) =
    (count ≡ next_count old dir) × (count < 2 ^ 24) × (new ≡ with_next old dir (count + 1)) × (out ≡ frame old dir count header plain)
Protects old dir header plain new out (Err e) =
    (next_count old dir ≡ 2 ^ 24) × (e ≡ record { next = 2 ^ 24 }) × (new ≡ old) × (out ≡ [])
