-- The modification of a PDU session that the handset asks for (TS 24.501 clause 6.4.2).
use Rattle.std.specs.Prelude.{ℕ, List, Some, None}
use Rattle.nas_qos.specs.Operations.{Operation, ops_octets}
use Rattle.nas_timers.specs.declared.timer_id.TimerId.TheVariants.{T3581}
use Rattle.sm_messages.specs.declared.message.Sm.{Sm}
use Rattle.sm_messages.specs.declared.message.Sm.TheVariants as sm
use Rattle.ue_sm.specs.Cells.{awaiting_modification, rejected}
use Rattle.ue_sm.specs.Transactions.{OpenTransaction}
use Rattle.ue_sm.specs.Work.{begun, cell, ended, request}
use Rattle.ue_sm.specs.declared.work.Work.{Work}

-- PDU SESSION MODIFICATION REQUEST with the requested QoS rules (clause 8.3.7)
abbrev pub modification_request : List Operation → Sm
modification_request ops = sm.PduSessionModificationRequest (record { cause = None; rules = Some (ops_octets ops) })

-- the command, for a session that is active, operations that apply and an identity that is left
unfoldable pub modified_by : ℕ → List Operation → Work → Work
modified_by psi ops w =
    let t : OpenTransaction = request psi None (modification_request ops) w in
    begun psi (T3581 psi) (awaiting_modification t (cell psi w)) t w

-- PDU SESSION MODIFICATION REJECT
unfoldable pub modification_rejected : ℕ → ℕ → Work → Work
modification_rejected psi n w = ended psi (rejected n (cell psi w)) w
