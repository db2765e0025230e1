-- Octets that pass the check of a context (TS 24.501 clause 4.4.3.3).
use Rattle.std.specs.Prelude.{ℕ, ◌+◌, List, Option, Some, None}
use Rattle.nas_base.specs.declared.count.Dir.{Dir}
use Rattle.nas_security.specs.Contexts.{SecurityContext}
use Rattle.nas_security.specs.Counts.{with_next}
use Rattle.nas_security.specs.Passing.{judged}
use Rattle.nas_security.specs.declared.verdicts.Verdict.{Verdict}
use Rattle.nas_security.specs.declared.verdicts.Verdict.TheVariants as verdicts

-- the count of octets that passed, and their plain message
pub record Opened : Type 0 where
  pub count : ℕ
  pub message : List ℕ

abbrev pub opened_by : Verdict × List ℕ → Option Opened
opened_by (verdicts.Passed count header, message) = Some (record { count = count; message = message })
opened_by (verdicts.Plain, message) = None
opened_by (verdicts.Malformed at, message) = None
opened_by (verdicts.Spent next, message) = None
opened_by (verdicts.Failed want got, message) = None

unfoldable pub opened : SecurityContext → Dir → List ℕ → Option Opened
opened context dir octets = opened_by (judged context dir octets)

-- the context once this count of a direction is taken
abbrev pub with_count : SecurityContext → Dir → ℕ → SecurityContext
with_count context dir count = with_next context dir (count + 1)
