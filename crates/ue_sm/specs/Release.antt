-- The release of a PDU session that the handset asks for (TS 24.501 clause 6.4.3).
use Rattle.std.specs.Prelude.{ℕ, Some, None}
use Rattle.nas_base.specs.declared.sm_cause.TheConstants as cause
use Rattle.nas_timers.specs.declared.timer_id.TimerId.TheVariants.{T3582}
use Rattle.sm_messages.specs.declared.message.Sm.{Sm}
use Rattle.sm_messages.specs.declared.message.Sm.TheVariants as sm
use Rattle.ue_sm.specs.Cells.{awaiting_release, rejected}
use Rattle.ue_sm.specs.Transactions.{OpenTransaction}
use Rattle.ue_sm.specs.Work.{begun, cell, ended, request}
use Rattle.ue_sm.specs.declared.work.Work.{Work}

-- PDU SESSION RELEASE REQUEST of cause 36, regular deactivation (clause 8.3.12)
abbrev pub release_request : Sm
release_request = sm.PduSessionReleaseRequest (record { cause = Some cause.REGULAR_DEACTIVATION })

-- the command, for a session that is active and an identity that is left
unfoldable pub released_by : ℕ → Work → Work
released_by psi w =
    let t : OpenTransaction = request psi None release_request w in
    begun psi (T3582 psi) (awaiting_release t (cell psi w)) t w

-- PDU SESSION RELEASE REJECT
unfoldable pub release_rejected : ℕ → ℕ → Work → Work
release_rejected psi n w = ended psi (rejected n (cell psi w)) w
