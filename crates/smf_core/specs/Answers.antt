-- The handset's answers to commands (TS 24.501 clauses 6.3.2.3, 6.3.2.4 and 6.3.3.3), and its 5GSM STATUS (clause 7.3).
use Rattle.std.specs.Prelude.{ℕ, ◌==◌, Bool, false, List, Option, Some, None}
use Rattle.nas_base.specs.Branches.{per, when◌then◌else◌}
use Rattle.nas_base.specs.declared.sm_cause.TheConstants as cause
use Rattle.nas_elements.specs.declared.ambr.Ambr.{Ambr}
use Rattle.nas_qos.specs.Rules.{QosRule}
use Rattle.sm_messages.specs.Session.{SessionValues}
use Rattle.smf_core.specs.Release.{removed}
use Rattle.smf_core.specs.Work.{Working, fence, held, hold, stop}
use Rattle.smf_core.specs.declared.held.Command.{Command}
use Rattle.smf_core.specs.declared.held.Held.{Held}
use Rattle.smf_core.specs.declared.held.LastCommand.{LastCommand}
use Rattle.smf_core.specs.declared.held.Modification.{Modification}
use Rattle.smf_core.specs.declared.held.Phase.{Phase}
use Rattle.smf_core.specs.declared.held.Phase.TheVariants.{Active, Modifying, Settling, Releasing}

-- The session and the modification whose command is open, where the transaction is that of
-- the command. Any other answer is ignored.
abbrev pub modification_in : Phase → ℕ → SessionValues → Option (SessionValues × Modification)
modification_in (Modifying m) pti session = when m.command.message.pti == pti then Some (session, m) else None
modification_in (Active last) pti session = None
modification_in (Settling last) pti session = None
modification_in (Releasing command) pti session = None

unfoldable pub modification_of : ℕ → ℕ → Working → Option (SessionValues × Modification)
modification_of psi pti w = per (held psi w) None (λ (h : Held). modification_in h.phase pti h.session)

-- A session whose command was given out once is Active again. Of a command that was given out more often,
-- copies and copies of their answers may still be under way: the session is Settling until another context is
-- in use, which the AMF is to bring about.
abbrev pub last_of : Command → LastCommand
last_of c = record { message = c.message; sendings = c.sendings }

unfoldable pub settled : SessionValues → Command → ℕ → Working → Working
settled session c psi w =
    when c.sendings == 1
    then hold psi (record { session = session; phase = Active (Some (last_of c)) }) (stop c.timer w)
    else fence (hold psi (record { session = session; phase = Settling (last_of c) }) (stop c.timer w))

-- PDU SESSION MODIFICATION COMPLETE: the session is what the command makes of it
abbrev pub session_after : List QosRule → Ambr → SessionValues → SessionValues
session_after rules ambr session = record session { rules = rules; ambr = ambr }

unfoldable pub modification_completed : ℕ → ℕ → Working → Working
modification_completed psi pti w =
    per (modification_of psi pti w) w
    (λ (o : SessionValues × Modification). settled (session_after o.1.rules o.1.ambr o.0) o.1.command psi w)

-- The session stays what it was.
unfoldable pub modification_refused : ℕ → ℕ → Working → Working
modification_refused psi pti w =
    per (modification_of psi pti w) w (λ (o : SessionValues × Modification). settled o.0 o.1.command psi w)

-- PDU SESSION MODIFICATION COMMAND REJECT: a handset that has no such session says so, and then there is none
abbrev pub command_rejected_of : ℕ → ℕ → SessionValues → Modification → Working → Working
command_rejected_of n psi session m w =
    when n == cause.INVALID_PDU_SESSION_IDENTITY then removed psi w else settled session m.command psi w

unfoldable pub command_rejected : ℕ → ℕ → ℕ → Working → Working
command_rejected n psi pti w =
    per (modification_of psi pti w) w (λ (o : SessionValues × Modification). command_rejected_of n psi o.0 o.1 w)

-- PDU SESSION RELEASE COMPLETE, where the transaction is that of the command
abbrev pub is_release_of : Phase → ℕ → Bool
is_release_of (Releasing command) pti = command.message.pti == pti
is_release_of (Active last) pti = false
is_release_of (Modifying m) pti = false
is_release_of (Settling last) pti = false

abbrev pub is_releasing : ℕ → ℕ → Working → Bool
is_releasing psi pti w = per (held psi w) false (λ (h : Held). is_release_of h.phase pti)

unfoldable pub release_completed : ℕ → ℕ → Working → Working
release_completed psi pti w = when is_releasing psi pti w then removed psi w else w

-- 5GSM STATUS: cause 43 says that the handset has no such session, whatever its state here and whatever the
-- transaction; cause 47 that it has no such transaction; others are ignored
unfoldable pub status_told : ℕ → ℕ → ℕ → Working → Working
status_told n psi pti w =
    when n == cause.INVALID_PDU_SESSION_IDENTITY then removed psi w
    else (when n == cause.PTI_MISMATCH then modification_refused psi pti w else w)
