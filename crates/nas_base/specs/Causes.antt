-- The causes by their names, and their numbers (TS 24.501 clauses 9.11.3.2 and 9.11.4.2).
use Rattle.std.specs.Prelude.{◌≡◌}
use Rattle.nas_base.specs.declared.mm_cause.TheConstants as mm
use Rattle.nas_base.specs.declared.sm_cause.TheConstants as sm

-- the causes of 5GMM
pub record MmCausesHaveNumbers : Type 0 where
  pub illegal_ue : mm.ILLEGAL_UE ≡ 3
  pub ue_identity_cannot_be_derived_by_the_network : mm.UE_IDENTITY_CANNOT_BE_DERIVED_BY_THE_NETWORK ≡ 9
  pub implicitly_deregistered : mm.IMPLICITLY_DEREGISTERED ≡ 10
  pub mac_failure : mm.MAC_FAILURE ≡ 20
  pub synch_failure : mm.SYNCH_FAILURE ≡ 21
  pub ue_security_capabilities_mismatch : mm.UE_SECURITY_CAPABILITIES_MISMATCH ≡ 23
  pub non_5g_authentication_unacceptable : mm.NON_5G_AUTHENTICATION_UNACCEPTABLE ≡ 26
  pub ngksi_already_in_use : mm.NGKSI_ALREADY_IN_USE ≡ 71
  pub payload_was_not_forwarded : mm.PAYLOAD_WAS_NOT_FORWARDED ≡ 90
  pub invalid_mandatory_information : mm.INVALID_MANDATORY_INFORMATION ≡ 96
  pub message_type_non_existent_or_not_implemented : mm.MESSAGE_TYPE_NON_EXISTENT_OR_NOT_IMPLEMENTED ≡ 97
  pub message_type_not_compatible_with_the_protocol_state : mm.MESSAGE_TYPE_NOT_COMPATIBLE_WITH_THE_PROTOCOL_STATE ≡ 98
  pub protocol_error_unspecified : mm.PROTOCOL_ERROR_UNSPECIFIED ≡ 111

-- the causes of 5GSM
pub record SmCausesHaveNumbers : Type 0 where
  pub insufficient_resources : sm.INSUFFICIENT_RESOURCES ≡ 26
  pub missing_or_unknown_dnn : sm.MISSING_OR_UNKNOWN_DNN ≡ 27
  pub unknown_pdu_session_type : sm.UNKNOWN_PDU_SESSION_TYPE ≡ 28
  pub regular_deactivation : sm.REGULAR_DEACTIVATION ≡ 36
  pub invalid_pdu_session_identity : sm.INVALID_PDU_SESSION_IDENTITY ≡ 43
  pub pti_mismatch : sm.PTI_MISMATCH ≡ 47
  pub pdu_session_type_ipv4_only_allowed : sm.PDU_SESSION_TYPE_IPV4_ONLY_ALLOWED ≡ 50
  pub pdu_session_type_ipv6_only_allowed : sm.PDU_SESSION_TYPE_IPV6_ONLY_ALLOWED ≡ 51
  pub semantic_error_in_the_qos_operation : sm.SEMANTIC_ERROR_IN_THE_QOS_OPERATION ≡ 83
  pub syntactical_error_in_the_qos_operation : sm.SYNTACTICAL_ERROR_IN_THE_QOS_OPERATION ≡ 84
  pub invalid_mandatory_information : sm.INVALID_MANDATORY_INFORMATION ≡ 96
  pub message_type_non_existent_or_not_implemented : sm.MESSAGE_TYPE_NON_EXISTENT_OR_NOT_IMPLEMENTED ≡ 97
  pub message_type_not_compatible_with_the_protocol_state : sm.MESSAGE_TYPE_NOT_COMPATIBLE_WITH_THE_PROTOCOL_STATE ≡ 98
