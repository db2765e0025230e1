-- How a message becomes octets: spelled, and protected under a context (TS 24.501 clause 4.4, TS 33.501 clause 6.4).
use Rattle.std.specs.Prelude.{◌≡◌, ℕ, ◌+◌, ◌^◌, Bool, true, false, ◌==◌, ◌||◌, List, length, nat_lt, Option, Some, None}
use Rattle.nas_base.specs.declared.count.Dir.{Dir}
use Rattle.nas_security.specs.Contexts.{SecurityContext}
use Rattle.nas_security.specs.Counts.{next_count, with_next}
use Rattle.nas_security.specs.Frame.{frame}
use Rattle.nas_security.specs.declared.sends.Pass.{Pass}

-- a message whose frame would have more than 4,096 octets isn't sent
abbrev pub is_too_long : List ℕ → Bool
is_too_long message = nat_lt 4089 (length message)

-- what spelling a message into an empty writer answered: whether it isn't too long, and then it was written
abbrev pub IsSpelled : Bool → List ℕ → List ℕ → Type 0
IsSpelled true out message = (is_too_long message ≡ false) × (out ≡ message)
IsSpelled false out message = is_too_long message ≡ true

-- a message whose context has no count left isn't sent either
abbrev pub is_unsent : List ℕ → SecurityContext → Dir → Bool
is_unsent message context dir = is_too_long message || next_count context dir == 2 ^ 24

-- the frame at the next count, what protects it, and the context once that count is taken
abbrev pub next_frame : SecurityContext → Dir → ℕ → List ℕ → List ℕ
next_frame context dir header message = frame context dir (next_count context dir) header message

abbrev pub pass_under : List ℕ → SecurityContext → Dir → Pass
pass_under supi context dir = record { supi = supi; challenge = context.challenge; count = next_count context dir }

abbrev pub counted : SecurityContext → Dir → SecurityContext
counted context dir = with_next context dir (next_count context dir + 1)

-- what framing a message comes to
abbrev pub Frames : SecurityContext → Dir → ℕ → List ℕ → List ℕ → SecurityContext → List ℕ → Option Pass → Type 0
Frames context dir header message supi after out (Some pass) =
    (is_unsent message context dir ≡ false) × (out ≡ next_frame context dir header message) × (pass ≡ pass_under supi context dir)
    × (after ≡ counted context dir)
Frames context dir header message supi after out None = (is_unsent message context dir ≡ true) × (after ≡ context)
