-- A message of each kind is read back by its table.
use Rattle.std.proofs.Common.{refl}
use Rattle.nas_base.specs.declared.mm_kind.MmKind.TheVariants as kinds
use Rattle.mm_messages.proofs.Back.{back}
use Rattle.mm_messages.proofs.laws.message_is_read_back.Goals as goal

pub returns-in-RegistrationRequest : goal.returns-in-RegistrationRequest
returns-in-RegistrationRequest c = rw c.in-RegistrationRequest.is (back kinds.RegistrationRequest c.in-RegistrationRequest.message c.is_read_back.ensures)

pub returns-in-RegistrationAccept : goal.returns-in-RegistrationAccept
returns-in-RegistrationAccept c = rw c.in-RegistrationAccept.is (back kinds.RegistrationAccept c.in-RegistrationAccept.message c.is_read_back-in-RegistrationAccept.ensures)

pub returns-in-RegistrationComplete : goal.returns-in-RegistrationComplete
returns-in-RegistrationComplete c = rw c.in-RegistrationComplete.is (back kinds.RegistrationComplete tt (refl, refl))

pub returns-in-RegistrationReject : goal.returns-in-RegistrationReject
returns-in-RegistrationReject c = rw c.in-RegistrationReject.is (back kinds.RegistrationReject c.in-RegistrationReject.message c.is_read_back-in-RegistrationReject.ensures)

pub returns-in-DeregistrationRequestUeOriginating : goal.returns-in-DeregistrationRequestUeOriginating
returns-in-DeregistrationRequestUeOriginating c = rw c.in-DeregistrationRequestUeOriginating.is (back kinds.DeregistrationRequestUeOriginating c.in-DeregistrationRequestUeOriginating.message c.is_read_back-in-DeregistrationRequestUeOriginating.ensures)

pub returns-in-DeregistrationAcceptUeOriginating : goal.returns-in-DeregistrationAcceptUeOriginating
returns-in-DeregistrationAcceptUeOriginating c = rw c.in-DeregistrationAcceptUeOriginating.is (back kinds.DeregistrationAcceptUeOriginating tt (refl, refl))

pub returns-in-DeregistrationRequestUeTerminated : goal.returns-in-DeregistrationRequestUeTerminated
returns-in-DeregistrationRequestUeTerminated c = rw c.in-DeregistrationRequestUeTerminated.is (back kinds.DeregistrationRequestUeTerminated c.in-DeregistrationRequestUeTerminated.message c.is_read_back-in-DeregistrationRequestUeTerminated.ensures)

pub returns-in-DeregistrationAcceptUeTerminated : goal.returns-in-DeregistrationAcceptUeTerminated
returns-in-DeregistrationAcceptUeTerminated c = rw c.in-DeregistrationAcceptUeTerminated.is (back kinds.DeregistrationAcceptUeTerminated tt (refl, refl))

pub returns-in-ServiceRequest : goal.returns-in-ServiceRequest
returns-in-ServiceRequest c = rw c.in-ServiceRequest.is (back kinds.ServiceRequest c.in-ServiceRequest.message c.is_read_back-in-ServiceRequest.ensures)

pub returns-in-ServiceReject : goal.returns-in-ServiceReject
returns-in-ServiceReject c = rw c.in-ServiceReject.is (back kinds.ServiceReject c.in-ServiceReject.message c.is_read_back-in-ServiceReject.ensures)

pub returns-in-ServiceAccept : goal.returns-in-ServiceAccept
returns-in-ServiceAccept c = rw c.in-ServiceAccept.is (back kinds.ServiceAccept c.in-ServiceAccept.message c.is_read_back-in-ServiceAccept.ensures)

pub returns-in-ConfigurationUpdateCommand : goal.returns-in-ConfigurationUpdateCommand
returns-in-ConfigurationUpdateCommand c = rw c.in-ConfigurationUpdateCommand.is (back kinds.ConfigurationUpdateCommand c.in-ConfigurationUpdateCommand.message c.is_read_back-in-ConfigurationUpdateCommand.ensures)

pub returns-in-ConfigurationUpdateComplete : goal.returns-in-ConfigurationUpdateComplete
returns-in-ConfigurationUpdateComplete c = rw c.in-ConfigurationUpdateComplete.is (back kinds.ConfigurationUpdateComplete tt (refl, refl))

pub returns-in-AuthenticationRequest : goal.returns-in-AuthenticationRequest
returns-in-AuthenticationRequest c = rw c.in-AuthenticationRequest.is (back kinds.AuthenticationRequest c.in-AuthenticationRequest.message c.is_read_back-in-AuthenticationRequest.ensures)

pub returns-in-AuthenticationResponse : goal.returns-in-AuthenticationResponse
returns-in-AuthenticationResponse c = rw c.in-AuthenticationResponse.is (back kinds.AuthenticationResponse c.in-AuthenticationResponse.message c.is_read_back-in-AuthenticationResponse.ensures)

pub returns-in-AuthenticationReject : goal.returns-in-AuthenticationReject
returns-in-AuthenticationReject c = rw c.in-AuthenticationReject.is (back kinds.AuthenticationReject tt (refl, refl))

pub returns-in-AuthenticationFailure : goal.returns-in-AuthenticationFailure
returns-in-AuthenticationFailure c = rw c.in-AuthenticationFailure.is (back kinds.AuthenticationFailure c.in-AuthenticationFailure.message c.is_read_back-in-AuthenticationFailure.ensures)

pub returns-in-IdentityRequest : goal.returns-in-IdentityRequest
returns-in-IdentityRequest c = rw c.in-IdentityRequest.is (back kinds.IdentityRequest c.in-IdentityRequest.message c.is_read_back-in-IdentityRequest.ensures)

pub returns-in-IdentityResponse : goal.returns-in-IdentityResponse
returns-in-IdentityResponse c = rw c.in-IdentityResponse.is (back kinds.IdentityResponse c.in-IdentityResponse.message c.is_read_back-in-IdentityResponse.ensures)

pub returns-in-SecurityModeCommand : goal.returns-in-SecurityModeCommand
returns-in-SecurityModeCommand c = rw c.in-SecurityModeCommand.is (back kinds.SecurityModeCommand c.in-SecurityModeCommand.message c.is_read_back-in-SecurityModeCommand.ensures)

pub returns-in-SecurityModeComplete : goal.returns-in-SecurityModeComplete
returns-in-SecurityModeComplete c = rw c.in-SecurityModeComplete.is (back kinds.SecurityModeComplete c.in-SecurityModeComplete.message c.is_read_back-in-SecurityModeComplete.ensures)

pub returns-in-SecurityModeReject : goal.returns-in-SecurityModeReject
returns-in-SecurityModeReject c = rw c.in-SecurityModeReject.is (back kinds.SecurityModeReject c.in-SecurityModeReject.message c.is_read_back-in-SecurityModeReject.ensures)

pub returns-in-FiveGmmStatus : goal.returns-in-FiveGmmStatus
returns-in-FiveGmmStatus c = rw c.in-FiveGmmStatus.is (back kinds.FiveGmmStatus c.in-FiveGmmStatus.message c.is_read_back-in-FiveGmmStatus.ensures)

pub returns-in-UlNasTransport : goal.returns-in-UlNasTransport
returns-in-UlNasTransport c = rw c.in-UlNasTransport.is (back kinds.UlNasTransport c.in-UlNasTransport.message c.is_read_back-in-UlNasTransport.ensures)

pub returns-in-DlNasTransport : goal.returns-in-DlNasTransport
returns-in-DlNasTransport c = rw c.in-DlNasTransport.is (back kinds.DlNasTransport c.in-DlNasTransport.message c.is_read_back-in-DlNasTransport.ensures)
