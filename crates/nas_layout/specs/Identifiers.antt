-- The identifiers of information elements by their names, and their numbers (TS 24.501 clauses 8.2 and 8.3).
use Rattle.std.specs.Prelude.{◌≡◌}
use Rattle.nas_layout.specs.declared.iei.TheConstants as iei

pub record IdentifiersHaveNumbers : Type 0 where
  pub pdu_session_id : iei.PDU_SESSION_ID ≡ 0x12
  pub integrity_protection_maximum_data_rate : iei.INTEGRITY_PROTECTION_MAXIMUM_DATA_RATE ≡ 0x13
  pub allowed_nssai : iei.ALLOWED_NSSAI ≡ 0x15
  pub authentication_parameter_autn : iei.AUTHENTICATION_PARAMETER_AUTN ≡ 0x20
  pub authentication_parameter_rand : iei.AUTHENTICATION_PARAMETER_RAND ≡ 0x21
  pub s_nssai : iei.S_NSSAI ≡ 0x22
  pub dnn : iei.DNN ≡ 0x25
  pub pdu_address : iei.PDU_ADDRESS ≡ 0x29
  pub session_ambr : iei.SESSION_AMBR ≡ 0x2a
  pub authentication_response_parameter : iei.AUTHENTICATION_RESPONSE_PARAMETER ≡ 0x2d
  pub ue_security_capability : iei.UE_SECURITY_CAPABILITY ≡ 0x2e
  pub authentication_failure_parameter : iei.AUTHENTICATION_FAILURE_PARAMETER ≡ 0x30
  pub additional_security_information : iei.ADDITIONAL_5G_SECURITY_INFORMATION ≡ 0x36
  pub local_time_zone : iei.LOCAL_TIME_ZONE ≡ 0x46
  pub universal_time_and_local_time_zone : iei.UNIVERSAL_TIME_AND_LOCAL_TIME_ZONE ≡ 0x47
  pub pdu_session_status : iei.PDU_SESSION_STATUS ≡ 0x50
  pub last_visited_registered_tai : iei.LAST_VISITED_REGISTERED_TAI ≡ 0x52
  pub tai_list : iei.TAI_LIST ≡ 0x54
  pub maximum_number_of_supported_packet_filters : iei.MAXIMUM_NUMBER_OF_SUPPORTED_PACKET_FILTERS ≡ 0x55
  pub rq_timer_value : iei.RQ_TIMER_VALUE ≡ 0x56
  pub selected_eps_nas_security_algorithms : iei.SELECTED_EPS_NAS_SECURITY_ALGORITHMS ≡ 0x57
  pub cause_5gmm : iei.CAUSE_5GMM ≡ 0x58
  pub cause_5gsm : iei.CAUSE_5GSM ≡ 0x59
  pub old_pdu_session_id : iei.OLD_PDU_SESSION_ID ≡ 0x59
  pub t3512_value : iei.T3512_VALUE ≡ 0x5e
  pub nas_message_container : iei.NAS_MESSAGE_CONTAINER ≡ 0x71
  pub guti_5g : iei.GUTI_5G ≡ 0x77
  pub authorized_qos_flow_descriptions : iei.AUTHORIZED_QOS_FLOW_DESCRIPTIONS ≡ 0x79
  pub qos_rules : iei.QOS_RULES ≡ 0x7a
  pub request_type : iei.REQUEST_TYPE ≡ 0x80
  pub pdu_session_type : iei.PDU_SESSION_TYPE ≡ 0x90
  pub ssc_mode : iei.SSC_MODE ≡ 0xa0
  pub configuration_update_indication : iei.CONFIGURATION_UPDATE_INDICATION ≡ 0xd0
