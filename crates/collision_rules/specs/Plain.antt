-- The kinds that are taken without protection, before secure exchange.
use Rattle.std.specs.Prelude.{Bool, true, false}
use Rattle.nas_base.specs.declared.mm_kind.MmKind.{MmKind}
use Rattle.nas_base.specs.declared.mm_kind.MmKind.TheVariants.{RegistrationRequest, RegistrationReject, DeregistrationAcceptUeOriginating, DeregistrationAcceptUeTerminated, ServiceRequest, ServiceReject, AuthenticationRequest, AuthenticationResponse, AuthenticationReject, AuthenticationFailure, IdentityRequest, IdentityResponse, SecurityModeReject}

-- at a handset (TS 24.501 clause 4.4.4.2)
abbrev pub permitted_ue : MmKind → Bool
permitted_ue IdentityRequest = true
permitted_ue AuthenticationRequest = true
permitted_ue AuthenticationReject = true
permitted_ue RegistrationReject = true
permitted_ue ServiceReject = true
permitted_ue DeregistrationAcceptUeOriginating = true
permitted_ue _ = false

-- at the AMF (clause 4.4.4.3)
abbrev pub permitted_amf : MmKind → Bool
permitted_amf RegistrationRequest = true
permitted_amf IdentityResponse = true
permitted_amf AuthenticationResponse = true
permitted_amf AuthenticationFailure = true
permitted_amf SecurityModeReject = true
permitted_amf DeregistrationAcceptUeTerminated = true
permitted_amf ServiceRequest = true
permitted_amf _ = false
