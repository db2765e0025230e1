-- A body of each kind is read by its table.
use Rattle.std.proofs.Common.{refl}
use Rattle.nas_base.specs.declared.mm_kind.MmKind.TheVariants as kinds
use Rattle.mm_messages.proofs.Bodies.{taken}
use Rattle.mm_messages.proofs.message.read_body.Goals as goal

pub returns-in_ok-read-in-RegistrationRequest : goal.returns-in_ok-read-in-RegistrationRequest
returns-in_ok-read-in-RegistrationRequest c =
    taken c.args.kind kinds.RegistrationRequest c.args.reader.now c.in_ok-read-in-RegistrationRequest.field-0 c.in-RegistrationRequest.is c.in_ok-read-in-RegistrationRequest.ensures

pub returns-in_ok-read-in-RegistrationAccept : goal.returns-in_ok-read-in-RegistrationAccept
returns-in_ok-read-in-RegistrationAccept c =
    taken c.args.kind kinds.RegistrationAccept c.args.reader.now c.in_ok-read-in-RegistrationAccept.field-0 c.in-RegistrationAccept.is c.in_ok-read-in-RegistrationAccept.ensures

pub returns-in-RegistrationComplete : goal.returns-in-RegistrationComplete
returns-in-RegistrationComplete c = taken c.args.kind kinds.RegistrationComplete c.args.reader.now tt c.in-RegistrationComplete.is refl

pub returns-in_ok-read-in-RegistrationReject : goal.returns-in_ok-read-in-RegistrationReject
returns-in_ok-read-in-RegistrationReject c =
    taken c.args.kind kinds.RegistrationReject c.args.reader.now c.in_ok-read-in-RegistrationReject.field-0 c.in-RegistrationReject.is c.in_ok-read-in-RegistrationReject.ensures

pub returns-in_ok-read-in-DeregistrationRequestUeOriginating : goal.returns-in_ok-read-in-DeregistrationRequestUeOriginating
returns-in_ok-read-in-DeregistrationRequestUeOriginating c =
    taken c.args.kind kinds.DeregistrationRequestUeOriginating c.args.reader.now c.in_ok-read-in-DeregistrationRequestUeOriginating.field-0 c.in-DeregistrationRequestUeOriginating.is c.in_ok-read-in-DeregistrationRequestUeOriginating.ensures

pub returns-in-DeregistrationAcceptUeOriginating : goal.returns-in-DeregistrationAcceptUeOriginating
returns-in-DeregistrationAcceptUeOriginating c = taken c.args.kind kinds.DeregistrationAcceptUeOriginating c.args.reader.now tt c.in-DeregistrationAcceptUeOriginating.is refl

pub returns-in_ok-read-in-DeregistrationRequestUeTerminated : goal.returns-in_ok-read-in-DeregistrationRequestUeTerminated
returns-in_ok-read-in-DeregistrationRequestUeTerminated c =
    taken c.args.kind kinds.DeregistrationRequestUeTerminated c.args.reader.now c.in_ok-read-in-DeregistrationRequestUeTerminated.field-0 c.in-DeregistrationRequestUeTerminated.is c.in_ok-read-in-DeregistrationRequestUeTerminated.ensures

pub returns-in-DeregistrationAcceptUeTerminated : goal.returns-in-DeregistrationAcceptUeTerminated
returns-in-DeregistrationAcceptUeTerminated c = taken c.args.kind kinds.DeregistrationAcceptUeTerminated c.args.reader.now tt c.in-DeregistrationAcceptUeTerminated.is refl

pub returns-in_ok-read-in-ServiceRequest : goal.returns-in_ok-read-in-ServiceRequest
returns-in_ok-read-in-ServiceRequest c =
    taken c.args.kind kinds.ServiceRequest c.args.reader.now c.in_ok-read-in-ServiceRequest.field-0 c.in-ServiceRequest.is c.in_ok-read-in-ServiceRequest.ensures

pub returns-in_ok-read-in-ServiceReject : goal.returns-in_ok-read-in-ServiceReject
returns-in_ok-read-in-ServiceReject c =
    taken c.args.kind kinds.ServiceReject c.args.reader.now c.in_ok-read-in-ServiceReject.field-0 c.in-ServiceReject.is c.in_ok-read-in-ServiceReject.ensures

pub returns-in_ok-read-in-ServiceAccept : goal.returns-in_ok-read-in-ServiceAccept
returns-in_ok-read-in-ServiceAccept c =
    taken c.args.kind kinds.ServiceAccept c.args.reader.now c.in_ok-read-in-ServiceAccept.field-0 c.in-ServiceAccept.is c.in_ok-read-in-ServiceAccept.ensures

pub returns-in_ok-read-in-ConfigurationUpdateCommand : goal.returns-in_ok-read-in-ConfigurationUpdateCommand
returns-in_ok-read-in-ConfigurationUpdateCommand c =
    taken c.args.kind kinds.ConfigurationUpdateCommand c.args.reader.now c.in_ok-read-in-ConfigurationUpdateCommand.field-0 c.in-ConfigurationUpdateCommand.is c.in_ok-read-in-ConfigurationUpdateCommand.ensures

pub returns-in-ConfigurationUpdateComplete : goal.returns-in-ConfigurationUpdateComplete
returns-in-ConfigurationUpdateComplete c = taken c.args.kind kinds.ConfigurationUpdateComplete c.args.reader.now tt c.in-ConfigurationUpdateComplete.is refl

pub returns-in_ok-read-in-AuthenticationRequest : goal.returns-in_ok-read-in-AuthenticationRequest
returns-in_ok-read-in-AuthenticationRequest c =
    taken c.args.kind kinds.AuthenticationRequest c.args.reader.now c.in_ok-read-in-AuthenticationRequest.field-0 c.in-AuthenticationRequest.is c.in_ok-read-in-AuthenticationRequest.ensures

pub returns-in_ok-read-in-AuthenticationResponse : goal.returns-in_ok-read-in-AuthenticationResponse
returns-in_ok-read-in-AuthenticationResponse c =
    taken c.args.kind kinds.AuthenticationResponse c.args.reader.now c.in_ok-read-in-AuthenticationResponse.field-0 c.in-AuthenticationResponse.is c.in_ok-read-in-AuthenticationResponse.ensures

pub returns-in-AuthenticationReject : goal.returns-in-AuthenticationReject
returns-in-AuthenticationReject c = taken c.args.kind kinds.AuthenticationReject c.args.reader.now tt c.in-AuthenticationReject.is refl

pub returns-in_ok-read-in-AuthenticationFailure : goal.returns-in_ok-read-in-AuthenticationFailure
returns-in_ok-read-in-AuthenticationFailure c =
    taken c.args.kind kinds.AuthenticationFailure c.args.reader.now c.in_ok-read-in-AuthenticationFailure.field-0 c.in-AuthenticationFailure.is c.in_ok-read-in-AuthenticationFailure.ensures

pub returns-in_ok-read-in-IdentityRequest : goal.returns-in_ok-read-in-IdentityRequest
returns-in_ok-read-in-IdentityRequest c =
    taken c.args.kind kinds.IdentityRequest c.args.reader.now c.in_ok-read-in-IdentityRequest.field-0 c.in-IdentityRequest.is c.in_ok-read-in-IdentityRequest.ensures

pub returns-in_ok-read-in-IdentityResponse : goal.returns-in_ok-read-in-IdentityResponse
returns-in_ok-read-in-IdentityResponse c =
    taken c.args.kind kinds.IdentityResponse c.args.reader.now c.in_ok-read-in-IdentityResponse.field-0 c.in-IdentityResponse.is c.in_ok-read-in-IdentityResponse.ensures

pub returns-in_ok-read-in-SecurityModeCommand : goal.returns-in_ok-read-in-SecurityModeCommand
returns-in_ok-read-in-SecurityModeCommand c =
    taken c.args.kind kinds.SecurityModeCommand c.args.reader.now c.in_ok-read-in-SecurityModeCommand.field-0 c.in-SecurityModeCommand.is c.in_ok-read-in-SecurityModeCommand.ensures

pub returns-in_ok-read-in-SecurityModeComplete : goal.returns-in_ok-read-in-SecurityModeComplete
returns-in_ok-read-in-SecurityModeComplete c =
    taken c.args.kind kinds.SecurityModeComplete c.args.reader.now c.in_ok-read-in-SecurityModeComplete.field-0 c.in-SecurityModeComplete.is c.in_ok-read-in-SecurityModeComplete.ensures

pub returns-in_ok-read-in-SecurityModeReject : goal.returns-in_ok-read-in-SecurityModeReject
returns-in_ok-read-in-SecurityModeReject c =
    taken c.args.kind kinds.SecurityModeReject c.args.reader.now c.in_ok-read-in-SecurityModeReject.field-0 c.in-SecurityModeReject.is c.in_ok-read-in-SecurityModeReject.ensures

pub returns-in_ok-read-in-FiveGmmStatus : goal.returns-in_ok-read-in-FiveGmmStatus
returns-in_ok-read-in-FiveGmmStatus c =
    taken c.args.kind kinds.FiveGmmStatus c.args.reader.now c.in_ok-read-in-FiveGmmStatus.field-0 c.in-FiveGmmStatus.is c.in_ok-read-in-FiveGmmStatus.ensures

pub returns-in_ok-read-in-UlNasTransport : goal.returns-in_ok-read-in-UlNasTransport
returns-in_ok-read-in-UlNasTransport c =
    taken c.args.kind kinds.UlNasTransport c.args.reader.now c.in_ok-read-in-UlNasTransport.field-0 c.in-UlNasTransport.is c.in_ok-read-in-UlNasTransport.ensures

pub returns-in_ok-read-in-DlNasTransport : goal.returns-in_ok-read-in-DlNasTransport
returns-in_ok-read-in-DlNasTransport c =
    taken c.args.kind kinds.DlNasTransport c.args.reader.now c.in_ok-read-in-DlNasTransport.field-0 c.in-DlNasTransport.is c.in_ok-read-in-DlNasTransport.ensures
