-- The messages of a service request (TS 24.501 clauses 8.2.16 to 8.2.18).
use Rattle.mm_messages.specs.Parts.{ksi_of}
use Rattle.mm_messages.specs.declared.service.ServiceAccept.{ServiceAccept}
use Rattle.mm_messages.specs.declared.service.ServiceReject.{ServiceReject}
use Rattle.mm_messages.specs.declared.service.ServiceRequest.{ServiceRequest}
use Rattle.nas_base.specs.declared.shape.Form.TheVariants.{Tlv}
use Rattle.nas_elements.specs.Packed.{two_halves}
use Rattle.nas_layout.specs.Codings.{identity, octet, status}
use Rattle.nas_layout.specs.Parts.{high_half, low_half}
use Rattle.nas_layout.specs.Table.{Table, element, elements, message, part}
use Rattle.nas_layout.specs.declared.frame.Frame.TheVariants.{V, Lve}
use Rattle.nas_layout.specs.declared.iei.TheConstants as iei

-- SERVICE REQUEST: ngKSI and service type; 5G-S-TMSI (or another mobile identity). PDU session status.
unfoldable pub service_request : Table ServiceRequest
service_request =
    part (V 1) octet (λ m. two_halves m.ksi m.service_type) (λ first.
    part Lve identity (λ m. m.identity) (λ identity.
    elements (
    element iei.PDU_SESSION_STATUS Tlv status (λ m. m.status) (λ status.
    message (record { ksi = ksi_of (low_half first); service_type = high_half first; identity = identity; status = status })))))

-- SERVICE REJECT: 5GMM cause. PDU session status.
unfoldable pub service_reject : Table ServiceReject
service_reject =
    part (V 1) octet (λ m. m.cause) (λ cause.
    elements (
    element iei.PDU_SESSION_STATUS Tlv status (λ m. m.status) (λ status.
    message (record { cause = cause; status = status }))))

-- SERVICE ACCEPT. PDU session status.
unfoldable pub service_accept : Table ServiceAccept
service_accept = elements (element iei.PDU_SESSION_STATUS Tlv status (λ m. m.status) (λ status. message (record { status = status })))
