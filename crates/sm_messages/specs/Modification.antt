-- The messages of the modification of a PDU session (TS 24.501 clauses 8.3.7 to 8.3.11).
use Rattle.nas_base.specs.declared.shape.Form.TheVariants.{Fixed, Tlv, Tlve}
use Rattle.nas_layout.specs.Codings.{ambr, container, octet}
use Rattle.nas_layout.specs.Table.{Table, element, elements, message, part, passed_over}
use Rattle.nas_layout.specs.declared.frame.Frame.TheVariants.{V}
use Rattle.nas_layout.specs.declared.iei.TheConstants as iei
use Rattle.sm_messages.specs.declared.modification.PduSessionModificationCommand.{PduSessionModificationCommand}
use Rattle.sm_messages.specs.declared.modification.PduSessionModificationCommandReject.{PduSessionModificationCommandReject}
use Rattle.sm_messages.specs.declared.modification.PduSessionModificationReject.{PduSessionModificationReject}
use Rattle.sm_messages.specs.declared.modification.PduSessionModificationRequest.{PduSessionModificationRequest}

-- PDU SESSION MODIFICATION REQUEST. 5GSM cause, requested QoS rules; the maximum number of supported packet filters and the
-- integrity protection maximum data rate are passed over.
unfoldable pub pdu_session_modification_request : Table PduSessionModificationRequest
pdu_session_modification_request =
    elements (
    element iei.CAUSE_5GSM (Fixed 2) octet (λ m. m.cause) (λ cause.
    element iei.QOS_RULES Tlve container (λ m. m.rules) (λ rules.
    passed_over iei.MAXIMUM_NUMBER_OF_SUPPORTED_PACKET_FILTERS (Fixed 3) (
    passed_over iei.INTEGRITY_PROTECTION_MAXIMUM_DATA_RATE (Fixed 3) (
    message (record { cause = cause; rules = rules }))))))

-- PDU SESSION MODIFICATION REJECT: 5GSM cause
unfoldable pub pdu_session_modification_reject : Table PduSessionModificationReject
pdu_session_modification_reject = part (V 1) octet (λ m. m.cause) (λ cause. elements (message (record { cause = cause })))

-- PDU SESSION MODIFICATION COMMAND. 5GSM cause, session AMBR, authorized QoS rules; the RQ timer is passed over.
unfoldable pub pdu_session_modification_command : Table PduSessionModificationCommand
pdu_session_modification_command =
    elements (
    element iei.CAUSE_5GSM (Fixed 2) octet (λ m. m.cause) (λ cause.
    element iei.SESSION_AMBR Tlv ambr (λ m. m.ambr) (λ ambr.
    element iei.QOS_RULES Tlve container (λ m. m.rules) (λ rules.
    passed_over iei.RQ_TIMER_VALUE (Fixed 2) (
    message (record { cause = cause; ambr = ambr; rules = rules }))))))

-- PDU SESSION MODIFICATION COMMAND REJECT: 5GSM cause
unfoldable pub pdu_session_modification_command_reject : Table PduSessionModificationCommandReject
pdu_session_modification_command_reject = part (V 1) octet (λ m. m.cause) (λ cause. elements (message (record { cause = cause })))
