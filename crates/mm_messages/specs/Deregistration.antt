-- The messages of de-registration (TS 24.501 clauses 8.2.12 to 8.2.15), which either end begins.
use Rattle.mm_messages.specs.Parts.{deregistration_code, is_switch_off, ksi_of}
use Rattle.mm_messages.specs.declared.deregistration.DeregistrationRequestUeOriginating.{DeregistrationRequestUeOriginating}
use Rattle.mm_messages.specs.declared.deregistration.DeregistrationRequestUeTerminated.{DeregistrationRequestUeTerminated}
use Rattle.nas_base.specs.declared.shape.Form.TheVariants.{Fixed}
use Rattle.nas_elements.specs.Packed.{two_halves}
use Rattle.nas_layout.specs.Codings.{identity, octet}
use Rattle.nas_layout.specs.Parts.{high_half}
use Rattle.nas_layout.specs.Table.{Table, element, elements, message, part}
use Rattle.nas_layout.specs.declared.frame.Frame.TheVariants.{V, Lve}
use Rattle.nas_layout.specs.declared.iei.TheConstants as iei

-- DEREGISTRATION REQUEST of the handset: de-registration type and ngKSI; 5GS mobile identity
unfoldable pub deregistration_request_ue_originating : Table DeregistrationRequestUeOriginating
deregistration_request_ue_originating =
    part (V 1) octet (λ m. two_halves (deregistration_code m.switch_off) m.ksi) (λ first.
    part Lve identity (λ m. m.identity) (λ identity.
    elements (message (record { switch_off = is_switch_off first; ksi = ksi_of (high_half first); identity = identity }))))

-- DEREGISTRATION REQUEST of the network: de-registration type. 5GMM cause.
unfoldable pub deregistration_request_ue_terminated : Table DeregistrationRequestUeTerminated
deregistration_request_ue_terminated =
    part (V 1) octet (λ m. deregistration_code m.switch_off) (λ first.
    elements (
    element iei.CAUSE_5GMM (Fixed 2) octet (λ m. m.cause) (λ cause.
    message (record { switch_off = is_switch_off first; cause = cause }))))
