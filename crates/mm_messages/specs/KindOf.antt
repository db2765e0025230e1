-- The kind of a message.
use Rattle.nas_base.specs.declared.mm_kind.MmKind.{MmKind}
use Rattle.nas_base.specs.declared.mm_kind.MmKind.TheVariants as kinds
use Rattle.mm_messages.specs.declared.message.Mm.{Mm}
use Rattle.mm_messages.specs.declared.message.Mm.TheVariants as mm

abbrev pub kind_of : Mm → MmKind
kind_of (mm.RegistrationRequest m) = kinds.RegistrationRequest
kind_of (mm.RegistrationAccept m) = kinds.RegistrationAccept
kind_of mm.RegistrationComplete = kinds.RegistrationComplete
kind_of (mm.RegistrationReject m) = kinds.RegistrationReject
kind_of (mm.DeregistrationRequestUeOriginating m) = kinds.DeregistrationRequestUeOriginating
kind_of mm.DeregistrationAcceptUeOriginating = kinds.DeregistrationAcceptUeOriginating
kind_of (mm.DeregistrationRequestUeTerminated m) = kinds.DeregistrationRequestUeTerminated
kind_of mm.DeregistrationAcceptUeTerminated = kinds.DeregistrationAcceptUeTerminated
kind_of (mm.ServiceRequest m) = kinds.ServiceRequest
kind_of (mm.ServiceReject m) = kinds.ServiceReject
kind_of (mm.ServiceAccept m) = kinds.ServiceAccept
kind_of (mm.ConfigurationUpdateCommand m) = kinds.ConfigurationUpdateCommand
kind_of mm.ConfigurationUpdateComplete = kinds.ConfigurationUpdateComplete
kind_of (mm.AuthenticationRequest m) = kinds.AuthenticationRequest
kind_of (mm.AuthenticationResponse m) = kinds.AuthenticationResponse
kind_of mm.AuthenticationReject = kinds.AuthenticationReject
kind_of (mm.AuthenticationFailure m) = kinds.AuthenticationFailure
kind_of (mm.IdentityRequest m) = kinds.IdentityRequest
kind_of (mm.IdentityResponse m) = kinds.IdentityResponse
kind_of (mm.SecurityModeCommand m) = kinds.SecurityModeCommand
kind_of (mm.SecurityModeComplete m) = kinds.SecurityModeComplete
kind_of (mm.SecurityModeReject m) = kinds.SecurityModeReject
kind_of (mm.FiveGmmStatus m) = kinds.FiveGmmStatus
kind_of (mm.UlNasTransport m) = kinds.UlNasTransport
kind_of (mm.DlNasTransport m) = kinds.DlNasTransport
