-- The messages of security mode control (TS 24.501 clauses 8.2.25 to 8.2.27).
use Rattle.mm_messages.specs.declared.security_mode.SecurityModeCommand.{SecurityModeCommand}
use Rattle.mm_messages.specs.declared.security_mode.SecurityModeComplete.{SecurityModeComplete}
use Rattle.mm_messages.specs.declared.security_mode.SecurityModeReject.{SecurityModeReject}
use Rattle.nas_base.specs.declared.shape.Form.TheVariants.{Fixed, Tlv, Tlve}
use Rattle.nas_layout.specs.Codings.{algs, asi, capability, container, ksi, octet}
use Rattle.nas_layout.specs.Table.{Table, element, elements, message, part, passed_over}
use Rattle.nas_layout.specs.declared.frame.Frame.TheVariants.{V, Lv}
use Rattle.nas_layout.specs.declared.iei.TheConstants as iei

-- SECURITY MODE COMMAND: selected NAS security algorithms; ngKSI; replayed UE security capability. Additional 5G security
-- information; the selected EPS algorithms are passed over.
unfoldable pub security_mode_command : Table SecurityModeCommand
security_mode_command =
    part (V 1) algs (λ m. m.algs) (λ algs.
    part (V 1) ksi (λ m. m.ksi) (λ ksi.
    part Lv capability (λ m. m.capability) (λ capability.
    elements (
    element iei.ADDITIONAL_5G_SECURITY_INFORMATION Tlv asi (λ m. m.asi) (λ asi.
    passed_over iei.SELECTED_EPS_NAS_SECURITY_ALGORITHMS (Fixed 2) (
    message (record { algs = algs; ksi = ksi; capability = capability; asi = asi })))))))

-- SECURITY MODE COMPLETE. NAS message container.
unfoldable pub security_mode_complete : Table SecurityModeComplete
security_mode_complete =
    elements (
    element iei.NAS_MESSAGE_CONTAINER Tlve container (λ m. m.message) (λ whole.
    message (record { message = whole })))

-- SECURITY MODE REJECT: 5GMM cause
unfoldable pub security_mode_reject : Table SecurityModeReject
security_mode_reject = part (V 1) octet (λ m. m.cause) (λ cause. elements (message (record { cause = cause })))
