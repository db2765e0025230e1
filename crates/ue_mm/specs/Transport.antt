-- The transport of 5GSM messages (TS 24.501 clause 5.4.5).
use Rattle.std.specs.Prelude.{ℕ, ◌==◌, List, Option, Some, None, option_map}
use Rattle.nas_base.specs.Branches.{per, when◌then◌else◌}
use Rattle.mm_messages.specs.declared.message.Mm.{Mm}
use Rattle.mm_messages.specs.declared.message.Mm.TheVariants as mm
use Rattle.mm_messages.specs.declared.transport.DlNasTransport.{DlNasTransport}
use Rattle.ue_mm.specs.Work.{answer, tell}
use Rattle.ue_mm.specs.declared.outs.UeOut.TheVariants.{NotForwarded, ToSession}
use Rattle.ue_mm.specs.declared.work.Work.{Work}

-- payload container type 1: N1 SM information (clause 9.11.3.40)
abbrev pub n1_sm : ℕ
n1_sm = 1

-- DL NAS TRANSPORT: a 5GSM message for the sessions, or, where it tells a cause, one of theirs that was not forwarded
unfoldable pub transported : DlNasTransport → Work → Work
transported m w =
    when m.container_type == n1_sm then per m.cause (tell (ToSession m.container) w) (λ (n : ℕ). tell (NotForwarded m.container) w) else w

-- UL NAS TRANSPORT with a message of a session. What asks for a new session, and only that, names the data network and is
-- an initial request, request type 1 (clauses 5.4.5.2.2 and 9.11.3.47).
abbrev pub ul_transport : ℕ → Option (List ℕ) → List ℕ → Mm
ul_transport psi dnn frame = mm.UlNasTransport (record {
  container_type = n1_sm;
  container = frame;
  psi = Some psi;
  request_type = option_map (λ (name : List ℕ). 1) dnn;
  slice = None;
  dnn = dnn;
})

-- It is sent on a secure connection alone.
unfoldable pub carried : ℕ → Option (List ℕ) → List ℕ → Work → Work
carried psi dnn frame w = when w.common.secure then answer (ul_transport psi dnn frame) w else w
