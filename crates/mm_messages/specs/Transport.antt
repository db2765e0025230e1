-- The messages that carry others (TS 24.501 clauses 8.2.10 and 8.2.11).
use Rattle.mm_messages.specs.declared.transport.DlNasTransport.{DlNasTransport}
use Rattle.mm_messages.specs.declared.transport.UlNasTransport.{UlNasTransport}
use Rattle.nas_base.specs.declared.shape.Form.TheVariants.{Half, Fixed, Tlv}
use Rattle.nas_layout.specs.Codings.{container, dnn, half, octet, slice}
use Rattle.nas_layout.specs.Table.{Table, element, elements, message, part, passed_over}
use Rattle.nas_layout.specs.declared.frame.Frame.TheVariants.{V, Lve}
use Rattle.nas_layout.specs.declared.iei.TheConstants as iei

-- UL NAS TRANSPORT: payload container type; payload container. PDU session ID, request type, S-NSSAI, DNN; the old PDU session ID
-- is passed over.
unfoldable pub ul_nas_transport : Table UlNasTransport
ul_nas_transport =
    part (V 1) half (λ m. m.container_type) (λ container_type.
    part Lve container (λ m. m.container) (λ container.
    elements (
    element iei.PDU_SESSION_ID (Fixed 2) octet (λ m. m.psi) (λ psi.
    element iei.REQUEST_TYPE Half half (λ m. m.request_type) (λ request_type.
    element iei.S_NSSAI Tlv slice (λ m. m.slice) (λ slice.
    element iei.DNN Tlv dnn (λ m. m.dnn) (λ dnn.
    passed_over iei.OLD_PDU_SESSION_ID (Fixed 2) (
    message (record { container_type = container_type; container = container; psi = psi; request_type = request_type; slice = slice; dnn = dnn })))))))))

-- DL NAS TRANSPORT: payload container type; payload container. PDU session ID, 5GMM cause.
unfoldable pub dl_nas_transport : Table DlNasTransport
dl_nas_transport =
    part (V 1) half (λ m. m.container_type) (λ container_type.
    part Lve container (λ m. m.container) (λ container.
    elements (
    element iei.PDU_SESSION_ID (Fixed 2) octet (λ m. m.psi) (λ psi.
    element iei.CAUSE_5GMM (Fixed 2) octet (λ m. m.cause) (λ cause.
    message (record { container_type = container_type; container = container; psi = psi; cause = cause }))))))
