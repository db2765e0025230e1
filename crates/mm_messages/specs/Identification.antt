-- The messages of identification (TS 24.501 clauses 8.2.21 and 8.2.22).
use Rattle.mm_messages.specs.declared.identification.IdentityRequest.{IdentityRequest}
use Rattle.mm_messages.specs.declared.identification.IdentityResponse.{IdentityResponse}
use Rattle.nas_layout.specs.Codings.{half, identity}
use Rattle.nas_layout.specs.Table.{Table, elements, message, part}
use Rattle.nas_layout.specs.declared.frame.Frame.TheVariants.{V, Lve}

-- IDENTITY REQUEST: identity type
unfoldable pub identity_request : Table IdentityRequest
identity_request = part (V 1) half (λ m. m.identity_type) (λ identity_type. elements (message (record { identity_type = identity_type })))

-- IDENTITY RESPONSE: 5GS mobile identity
unfoldable pub identity_response : Table IdentityResponse
identity_response = part Lve identity (λ m. m.identity) (λ identity. elements (message (record { identity = identity })))
