-- Scripts.
use Rattle.std.specs.Prelude.{ℕ, Bool, not, List, ◌==◌}
use Rattle.std.specs.List.{list_all}
use Rattle.nas_world.specs.declared.event.Event.{Event}

-- an event, with its line as it was given
pub record Line : Type 0 where
  pub event : Event
  pub text : List ℕ

-- no line feed is in the text
abbrev pub is_one_line : List ℕ → Bool
is_one_line text = list_all (λ octet. not (octet == 10)) text
