-- Octets that pass the check of a context, and what a handset notes of it (TS 24.501 clause 4.4.3.3).
use Rattle.std.specs.Prelude.{ℕ, true, Some}
use Rattle.nas_base.specs.declared.count.Dir.TheVariants.{Down}
use Rattle.mm_entity.specs.Opening.{with_count}
use Rattle.nas_security.specs.Contexts.{SecurityContext}
use Rattle.ue_mm.specs.Work.{tell}
use Rattle.ue_mm.specs.declared.outs.UeOut.TheVariants.{Passed}
use Rattle.ue_mm.specs.declared.work.Work.{Work}

-- that a message passed is noted
abbrev pub noted : SecurityContext → ℕ → Work → Work
noted context count w =
    tell (Passed (record { supi = w.common.config.supi; challenge = context.challenge; count = count })) w

-- A message that passed under the current context takes its count, and makes the connection secure.
abbrev pub counted : SecurityContext → ℕ → Work → Work
counted context count w =
    noted context count (record w { common = record w.common { secure = true; current = Some (with_count context Down count) } })
