-- What the AMF asks of all sessions of a subscriber: another context is in use, they
-- are to be released, or all but some are.
use Rattle.std.specs.Prelude.{ℕ, zero, suc, ◌+◌, Bool, List, Some, None}
use Rattle.nas_base.specs.Branches.{per, when◌then◌else◌}
use Rattle.nas_elements.specs.Status.{has}
use Rattle.sm_messages.specs.Session.{SessionValues}
use Rattle.smf_core.specs.Release.{removed}
use Rattle.smf_core.specs.Work.{Working, cell, held, hold, put}
use Rattle.smf_core.specs.declared.cell.Answer.{Answer}
use Rattle.smf_core.specs.declared.held.Held.{Held}
use Rattle.smf_core.specs.declared.held.Phase.{Phase}
use Rattle.smf_core.specs.declared.held.Phase.TheVariants.{Active, Modifying, Settling, Releasing}

-- a row for each of the identities 1 to 15, one after the other
unfoldable pub each_from : ℕ → ℕ → (ℕ → Working → Working) → Working → Working
each_from zero psi row w = w
each_from (suc n) psi row w = each_from n (psi + 1) row (row psi w)

abbrev pub each : (ℕ → Working → Working) → Working → Working
each row w = each_from 15 1 row w

-- Another context is in use. No copy of a command or of its answer can pass any more, so a session that waited for that
-- is Active; and a request that repeats one of the old context can't come, so its answer is forgotten.
abbrev pub forgotten : ℕ → Working → Working
forgotten psi w = per (cell psi w).answer w (λ (a : Answer). put psi (record (cell psi w) { answer = None }) w)

abbrev pub unsettled_in : Phase → ℕ → SessionValues → Working → Working
unsettled_in (Settling last) psi session w = hold psi (record { session = session; phase = Active (Some last) }) w
unsettled_in (Active last) psi session w = w
unsettled_in (Modifying m) psi session w = w
unsettled_in (Releasing command) psi session w = w

abbrev pub unsettled : ℕ → Working → Working
unsettled psi w = per (held psi w) w (λ (h : Held). unsettled_in h.phase psi h.session w)

unfoldable pub switched_at : ℕ → Working → Working
switched_at psi w = unsettled psi (forgotten psi w)

unfoldable pub switched : Working → Working
switched w = each switched_at w

-- All sessions are removed; or all that aren't in this set are. Nothing is sent, and what was answered stays.
unfoldable pub all_released : Working → Working
all_released w = each removed w

unfoldable pub kept_only_at : List Bool → ℕ → Working → Working
kept_only_at status psi w = when has psi status then w else removed psi w

unfoldable pub kept_only : List Bool → Working → Working
kept_only status w = each (kept_only_at status) w
