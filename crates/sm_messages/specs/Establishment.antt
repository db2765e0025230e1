-- The messages of the establishment of a PDU session (TS 24.501 clauses 8.3.1 to 8.3.3).
use Rattle.nas_base.specs.declared.shape.Form.TheVariants.{Half, Fixed, Tlv, Tlve}
use Rattle.nas_elements.specs.Packed.{two_halves}
use Rattle.nas_layout.specs.Codings.{address, ambr, container, dnn, half, octet, octets, slice}
use Rattle.nas_layout.specs.Parts.{high_half, low_half}
use Rattle.nas_layout.specs.Table.{Table, element, elements, message, part, passed_over}
use Rattle.nas_layout.specs.declared.frame.Frame.TheVariants.{V, Lv, Lve}
use Rattle.nas_layout.specs.declared.iei.TheConstants as iei
use Rattle.sm_messages.specs.FlowDescriptions.{flow_descriptions}
use Rattle.sm_messages.specs.Parts.{session_type, session_type_of}
use Rattle.sm_messages.specs.declared.establishment.PduSessionEstablishmentAccept.{PduSessionEstablishmentAccept}
use Rattle.sm_messages.specs.declared.establishment.PduSessionEstablishmentReject.{PduSessionEstablishmentReject}
use Rattle.sm_messages.specs.declared.establishment.PduSessionEstablishmentRequest.{PduSessionEstablishmentRequest}

-- PDU SESSION ESTABLISHMENT REQUEST: integrity protection maximum data rate. PDU session type, SSC mode; the maximum number of
-- supported packet filters is passed over.
unfoldable pub pdu_session_establishment_request : Table PduSessionEstablishmentRequest
pdu_session_establishment_request =
    part (V 2) (octets 2) (λ m. m.maximum_rates) (λ maximum_rates.
    elements (
    element iei.PDU_SESSION_TYPE Half session_type (λ m. m.session_type) (λ session_type.
    element iei.SSC_MODE Half half (λ m. m.ssc_mode) (λ ssc_mode.
    passed_over iei.MAXIMUM_NUMBER_OF_SUPPORTED_PACKET_FILTERS (Fixed 3) (
    message (record { maximum_rates = maximum_rates; session_type = session_type; ssc_mode = ssc_mode }))))))

-- PDU SESSION ESTABLISHMENT ACCEPT: selected PDU session type and SSC mode; authorized QoS rules; session AMBR. 5GSM cause, PDU
-- address, S-NSSAI, authorized QoS flow descriptions, DNN; the RQ timer is passed over.
unfoldable pub pdu_session_establishment_accept : Table PduSessionEstablishmentAccept
pdu_session_establishment_accept =
    part (V 1) octet (λ m. two_halves m.session_type m.ssc_mode) (λ first.
    part Lve container (λ m. m.rules) (λ rules.
    part Lv ambr (λ m. m.ambr) (λ ambr.
    elements (
    element iei.CAUSE_5GSM (Fixed 2) octet (λ m. m.cause) (λ cause.
    element iei.PDU_ADDRESS Tlv address (λ m. m.address) (λ address.
    element iei.S_NSSAI Tlv slice (λ m. m.slice) (λ slice.
    element iei.AUTHORIZED_QOS_FLOW_DESCRIPTIONS Tlve flow_descriptions (λ m. m.flows) (λ flows.
    element iei.DNN Tlv dnn (λ m. m.dnn) (λ dnn.
    passed_over iei.RQ_TIMER_VALUE (Fixed 2) (
    message (record {
      session_type = session_type_of (low_half first);
      ssc_mode = high_half first;
      rules = rules;
      ambr = ambr;
      cause = cause;
      address = address;
      slice = slice;
      flows = flows;
      dnn = dnn;
    })))))))))))

-- PDU SESSION ESTABLISHMENT REJECT: 5GSM cause
unfoldable pub pdu_session_establishment_reject : Table PduSessionEstablishmentReject
pdu_session_establishment_reject = part (V 1) octet (λ m. m.cause) (λ cause. elements (message (record { cause = cause })))
