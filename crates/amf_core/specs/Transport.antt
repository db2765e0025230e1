-- The transport of 5GSM messages (TS 24.501 clauses 5.4.5.2 and 5.4.5.3).
use Rattle.std.specs.Prelude.{ℕ, ◌==◌, List, Option, Some, None}
use Rattle.nas_base.specs.Branches.{per, when◌then◌else◌}
use Rattle.nas_base.specs.Values.{psi_from}
use Rattle.nas_base.specs.declared.mm_cause.TheConstants as cause
use Rattle.nas_security.specs.declared.challenges.Challenge.{Challenge}
use Rattle.mm_messages.specs.declared.message.Mm.TheVariants as mm
use Rattle.mm_messages.specs.declared.transport.UlNasTransport.{UlNasTransport}
use Rattle.amf_core.specs.Work.{Work, ask, say, say_on}
use Rattle.amf_core.specs.declared.acts.Protection.TheVariants.{Ciphered}
use Rattle.amf_core.specs.declared.outs.SmfAsk.TheVariants.{Frame}
use Rattle.amf_core.specs.declared.subscriber.Record.{Record}

-- payload container type 1: N1 SM information (clause 9.11.3.40)
abbrev pub n1_sm : ℕ
n1_sm = 1

-- the session of a 5GSM message: 1 to 15 (TS 24.007 clause 11.2.3.1b)
abbrev pub session_of : ℕ → Option ℕ → Option ℕ
session_of container_type psi =
    when container_type == n1_sm then per psi None psi_from else None

-- UL NAS TRANSPORT: a 5GSM message of a session goes to the SMF. Anything else goes back.
abbrev pub not_forwarded : UlNasTransport → ℕ → Record → Work → Work
not_forwarded m link s w = say link (Ciphered s.supi) (mm.DlNasTransport (record {
  container_type = m.container_type;
  container = m.container;
  psi = m.psi;
  cause = Some cause.PAYLOAD_WAS_NOT_FORWARDED;
})) w

unfoldable pub transported : UlNasTransport → ℕ → Challenge → Record → Work → Work
transported m link challenge s w =
    per (session_of m.container_type m.psi) (not_forwarded m link s w)
    (λ (psi : ℕ). ask (Frame psi challenge m.dnn m.slice m.container) s w)

-- DL NAS TRANSPORT with a 5GSM message of the SMF
unfoldable pub brought_down : ℕ → List ℕ → Record → Work → Work
brought_down psi frame s w =
    say_on s.link (Ciphered s.supi) (mm.DlNasTransport (record { container_type = n1_sm; container = frame; psi = Some psi; cause = None })) w
