-- The program over a machine, whose files and output tell nothing of their octets: the statuses that words may end with.
use Rattle.std.specs.Prelude.{◌≡◌, ◌⊎◌, ℕ, true, false, List, None, IfNone, IfSome, IsSome}
use Rattle.nas_show.specs.Shown.{shown}
use Rattle.nas_cli.specs.Program.{is_vectors, run_form, show_form, shown_answer}

-- the status of an answer, or 6 where the output failed, or 8 where memory was wanting
abbrev pub EndsBy : ℕ → ℕ → Type 0
EndsBy wanted status = (status ≡ wanted) ⊎ (status ≡ 6) ⊎ (status ≡ 8)

-- Words of no form end by 2, the vectors by 0, and octets to show by 0 or 13; and 2 comes only
-- where the words are of no form, 13 only where there are octets to show.
pub record Ends (ws : List (List ℕ)) (status : ℕ) : Type 0 where
  pub words : IfNone (run_form ws) (is_vectors ws ≡ false → IfNone (show_form ws) (EndsBy 2 status))
  pub vectors : is_vectors ws ≡ true → EndsBy 0 status
  pub show : IfSome (show_form ws) (λ octets. EndsBy (shown_answer (shown octets)).status status)
  pub form : status ≡ 2 → (run_form ws ≡ None) × (is_vectors ws ≡ false) × (show_form ws ≡ None)
  pub octets : status ≡ 13 → IsSome (show_form ws)
