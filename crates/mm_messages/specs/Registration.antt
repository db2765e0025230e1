-- The messages of registration (TS 24.501 clauses 8.2.6 to 8.2.9).
use Rattle.mm_messages.specs.Parts.{follow_on, ksi_of, registration_result, registration_type_code, registration_type_of}
use Rattle.mm_messages.specs.declared.registration.RegistrationAccept.{RegistrationAccept}
use Rattle.mm_messages.specs.declared.registration.RegistrationReject.{RegistrationReject}
use Rattle.mm_messages.specs.declared.registration.RegistrationRequest.{RegistrationRequest}
use Rattle.nas_base.specs.declared.shape.Form.TheVariants.{Fixed, Tlv, Tlve}
use Rattle.nas_elements.specs.Packed.{two_halves}
use Rattle.nas_layout.specs.Codings.{capability, guti, identity, nssai, octet, status, tai_list, timer3}
use Rattle.nas_layout.specs.Parts.{high_half, low_half}
use Rattle.nas_layout.specs.Table.{Table, element, elements, message, part, passed_over}
use Rattle.nas_layout.specs.declared.frame.Frame.TheVariants.{V, Lv, Lve}
use Rattle.nas_layout.specs.declared.iei.TheConstants as iei
use Rattle.std.specs.Prelude.{◌+◌}

-- REGISTRATION REQUEST: 5GS registration type and ngKSI; 5GS mobile identity. UE security capability, PDU session status; the last
-- visited registered TAI is passed over.
unfoldable pub registration_request : Table RegistrationRequest
registration_request =
    part (V 1) octet (λ m. two_halves (registration_type_code m.registration + follow_on) m.ksi) (λ first.
    part Lve identity (λ m. m.identity) (λ identity.
    elements (
    element iei.UE_SECURITY_CAPABILITY Tlv capability (λ m. m.capability) (λ capability.
    element iei.PDU_SESSION_STATUS Tlv status (λ m. m.status) (λ status.
    passed_over iei.LAST_VISITED_REGISTERED_TAI (Fixed 7) (
    message (record {
      registration = registration_type_of (low_half first);
      ksi = ksi_of (high_half first);
      identity = identity;
      capability = capability;
      status = status;
    })))))))

-- REGISTRATION ACCEPT: 5GS registration result. 5G-GUTI, TAI list, allowed NSSAI, PDU session status, T3512 value.
unfoldable pub registration_accept : Table RegistrationAccept
registration_accept =
    part Lv registration_result (λ m. m.result) (λ result.
    elements (
    element iei.GUTI_5G Tlve guti (λ m. m.guti) (λ guti.
    element iei.TAI_LIST Tlv tai_list (λ m. m.tai_list) (λ tai_list.
    element iei.ALLOWED_NSSAI Tlv nssai (λ m. m.nssai) (λ nssai.
    element iei.PDU_SESSION_STATUS Tlv status (λ m. m.status) (λ status.
    element iei.T3512_VALUE Tlv timer3 (λ m. m.t3512) (λ t3512.
    message (record { result = result; guti = guti; tai_list = tai_list; nssai = nssai; status = status; t3512 = t3512 }))))))))

-- REGISTRATION REJECT: 5GMM cause
unfoldable pub registration_reject : Table RegistrationReject
registration_reject = part (V 1) octet (λ m. m.cause) (λ cause. elements (message (record { cause = cause })))
