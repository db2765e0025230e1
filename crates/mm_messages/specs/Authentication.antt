-- The messages of primary authentication by 5G AKA (TS 24.501 clauses 8.2.1 to 8.2.5).
use Rattle.mm_messages.specs.declared.authentication.AuthenticationFailure.{AuthenticationFailure}
use Rattle.mm_messages.specs.declared.authentication.AuthenticationRequest.{AuthenticationRequest}
use Rattle.mm_messages.specs.declared.authentication.AuthenticationResponse.{AuthenticationResponse}
use Rattle.nas_base.specs.declared.shape.Form.TheVariants.{Fixed, Tlv}
use Rattle.nas_layout.specs.Codings.{abba, ksi, octet, octets}
use Rattle.nas_layout.specs.Table.{Table, element, elements, message, part}
use Rattle.nas_layout.specs.declared.frame.Frame.TheVariants.{V, Lv}
use Rattle.nas_layout.specs.declared.iei.TheConstants as iei

-- AUTHENTICATION REQUEST: ngKSI; ABBA. RAND, AUTN.
unfoldable pub authentication_request : Table AuthenticationRequest
authentication_request =
    part (V 1) ksi (λ m. m.ksi) (λ ksi.
    part Lv abba (λ m. m.abba) (λ abba.
    elements (
    element iei.AUTHENTICATION_PARAMETER_RAND (Fixed 17) (octets 16) (λ m. m.rand) (λ rand.
    element iei.AUTHENTICATION_PARAMETER_AUTN Tlv (octets 16) (λ m. m.autn) (λ autn.
    message (record { ksi = ksi; abba = abba; rand = rand; autn = autn }))))))

-- AUTHENTICATION RESPONSE. RES*.
unfoldable pub authentication_response : Table AuthenticationResponse
authentication_response =
    elements (
    element iei.AUTHENTICATION_RESPONSE_PARAMETER Tlv (octets 16) (λ m. m.res_star) (λ res_star.
    message (record { res_star = res_star })))

-- AUTHENTICATION FAILURE: 5GMM cause. AUTS.
unfoldable pub authentication_failure : Table AuthenticationFailure
authentication_failure =
    part (V 1) octet (λ m. m.cause) (λ cause.
    elements (
    element iei.AUTHENTICATION_FAILURE_PARAMETER Tlv (octets 14) (λ m. m.auts) (λ auts.
    message (record { cause = cause; auts = auts }))))
