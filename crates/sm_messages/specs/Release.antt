-- The messages of the release of a PDU session (TS 24.501 clauses 8.3.12 to 8.3.15).
use Rattle.nas_base.specs.declared.shape.Form.TheVariants.{Fixed}
use Rattle.nas_layout.specs.Codings.{octet}
use Rattle.nas_layout.specs.Table.{Table, element, elements, message, part}
use Rattle.nas_layout.specs.declared.frame.Frame.TheVariants.{V}
use Rattle.nas_layout.specs.declared.iei.TheConstants as iei
use Rattle.sm_messages.specs.declared.release.PduSessionReleaseCommand.{PduSessionReleaseCommand}
use Rattle.sm_messages.specs.declared.release.PduSessionReleaseComplete.{PduSessionReleaseComplete}
use Rattle.sm_messages.specs.declared.release.PduSessionReleaseReject.{PduSessionReleaseReject}
use Rattle.sm_messages.specs.declared.release.PduSessionReleaseRequest.{PduSessionReleaseRequest}

-- PDU SESSION RELEASE REQUEST. 5GSM cause.
unfoldable pub pdu_session_release_request : Table PduSessionReleaseRequest
pdu_session_release_request = elements (element iei.CAUSE_5GSM (Fixed 2) octet (λ m. m.cause) (λ cause. message (record { cause = cause })))

-- PDU SESSION RELEASE REJECT: 5GSM cause
unfoldable pub pdu_session_release_reject : Table PduSessionReleaseReject
pdu_session_release_reject = part (V 1) octet (λ m. m.cause) (λ cause. elements (message (record { cause = cause })))

-- PDU SESSION RELEASE COMMAND: 5GSM cause
unfoldable pub pdu_session_release_command : Table PduSessionReleaseCommand
pdu_session_release_command = part (V 1) octet (λ m. m.cause) (λ cause. elements (message (record { cause = cause })))

-- PDU SESSION RELEASE COMPLETE. 5GSM cause.
unfoldable pub pdu_session_release_complete : Table PduSessionReleaseComplete
pdu_session_release_complete = elements (element iei.CAUSE_5GSM (Fixed 2) octet (λ m. m.cause) (λ cause. message (record { cause = cause })))
