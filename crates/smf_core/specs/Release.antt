-- The release of PDU sessions (TS 24.501 clauses 6.3.3 and 6.4.3).
use Rattle.std.specs.Prelude.{ℕ, ◌==◌, ◌||◌, Bool, Option, Some, None}
use Rattle.nas_base.specs.Branches.{per, when◌then◌else◌}
use Rattle.nas_base.specs.declared.sm_cause.TheConstants as cause
use Rattle.nas_timers.specs.declared.timer_id.TimerId.{TimerId}
use Rattle.nas_timers.specs.declared.timer_id.TimerId.TheVariants.{T3592}
use Rattle.sm_messages.specs.Session.{SessionValues}
use Rattle.sm_messages.specs.declared.message.Sm.TheVariants as sm
use Rattle.smf_core.specs.Kept.{timer_of}
use Rattle.smf_core.specs.Work.{Working, frame, free, give_out, held, say, stop_timer, vacate}
use Rattle.smf_core.specs.declared.held.Command.{Command}
use Rattle.smf_core.specs.declared.held.Held.{Held}
use Rattle.smf_core.specs.declared.held.Phase.{Phase}
use Rattle.smf_core.specs.declared.held.Phase.TheVariants.{Active, Modifying, Settling, Releasing}

-- 0 is no transaction's, and 255 is reserved (clause 9.6)
abbrev pub is_no_transaction : ℕ → Bool
is_no_transaction pti = pti == 0 || pti == 255

-- A session is removed: its timer is stopped and its address is free. What was answered to its establishment stays.
abbrev pub removed_of : ℕ → Held → Working → Working
removed_of psi h w = free h.session.address (stop_timer (timer_of h.phase) (vacate psi w))

unfoldable pub removed : ℕ → Working → Working
removed psi w = per (held psi w) w (λ (h : Held). removed_of psi h w)

-- PDU SESSION RELEASE COMMAND: regular deactivation (clause 6.3.3.2)
abbrev pub release_command : ℕ → ℕ → Command
release_command psi pti = record {
  message = frame psi pti (sm.PduSessionReleaseCommand (record { cause = cause.REGULAR_DEACTIVATION }));
  timer = T3592 psi;
  sendings = 1;
}

-- A session is commanded to be released. A command that was open on it is open no longer, and its timer is stopped.
abbrev pub releasing_by : Command → Option TimerId → ℕ → SessionValues → Working → Working
releasing_by c timer psi session w =
    give_out c.message c.timer psi (record { session = session; phase = Releasing c }) (stop_timer timer w)

unfoldable pub releasing : ℕ → ℕ → Option TimerId → SessionValues → Working → Working
releasing psi pti timer session w = releasing_by (release_command psi pti) timer psi session w

-- PDU SESSION RELEASE REQUEST: the network releases the session, unless it does so already (clause 6.4.3.3)
abbrev pub release_requested_in : Phase → ℕ → ℕ → SessionValues → Working → Working
release_requested_in (Active last) psi pti session w = releasing psi pti None session w
release_requested_in (Modifying m) psi pti session w = releasing psi pti (Some m.command.timer) session w
release_requested_in (Settling last) psi pti session w = releasing psi pti None session w
release_requested_in (Releasing command) psi pti session w = w

-- PDU SESSION RELEASE REJECT (clause 6.4.3.4)
abbrev pub release_rejected : ℕ → ℕ → ℕ → Working → Working
release_rejected psi pti n w = say psi pti (sm.PduSessionReleaseReject (record { cause = n })) w

unfoldable pub release_requested : ℕ → ℕ → Working → Working
release_requested psi pti w =
    when is_no_transaction pti then w
    else per (held psi w) (release_rejected psi pti cause.INVALID_PDU_SESSION_IDENTITY w)
    (λ (h : Held). release_requested_in h.phase psi pti h.session w)
