-- The messages of 5GMM, each by its table, and their way to octets and back (TS 24.501 clauses 7.2, 7.4, 7.5, 8.2 and 9.7).
use Rattle.std.specs.Prelude.{◌≡◌, ◌%◌, ℕ, Bool, true, false, not, ◌&&◌, ◌==◌, nat_lt, List, [], ◌∷◌, ◌++◌, length, drop, slice_index, Option, Some, None, Result, Ok, Err, if◌then◌else◌}
use Rattle.nas_base.specs.Kinds.{mm_kind, mm_type}
use Rattle.nas_base.specs.Reading.{Place}
use Rattle.nas_base.specs.declared.mm_kind.MmKind.{MmKind}
use Rattle.nas_base.specs.declared.mm_kind.MmKind.TheVariants as kinds
use Rattle.nas_layout.specs.Pieces.{Piece, pieces_octets}
use Rattle.nas_layout.specs.Spelling.{Spells}
use Rattle.nas_layout.specs.Table.{Table, elements, keeps, laid, message, pieces}
use Rattle.nas_layout.specs.declared.body.BodyRefusal.{BodyRefusal}
use Rattle.nas_layout.specs.declared.body.BodyRefusal.TheVariants as body
use Rattle.mm_messages.specs.Registration.{registration_accept, registration_reject, registration_request}
use Rattle.mm_messages.specs.Deregistration.{deregistration_request_ue_originating, deregistration_request_ue_terminated}
use Rattle.mm_messages.specs.Service.{service_accept, service_reject, service_request}
use Rattle.mm_messages.specs.ConfigurationUpdate.{configuration_update_command}
use Rattle.mm_messages.specs.Authentication.{authentication_failure, authentication_request, authentication_response}
use Rattle.mm_messages.specs.Identification.{identity_request, identity_response}
use Rattle.mm_messages.specs.SecurityMode.{security_mode_command, security_mode_complete, security_mode_reject}
use Rattle.mm_messages.specs.StatusMessage.{five_gmm_status}
use Rattle.mm_messages.specs.Transport.{dl_nas_transport, ul_nas_transport}
use Rattle.mm_messages.specs.KindOf.{kind_of}
use Rattle.mm_messages.specs.Parts.{head}
use Rattle.mm_messages.specs.declared.registration.RegistrationAccept.{RegistrationAccept}
use Rattle.mm_messages.specs.declared.registration.RegistrationReject.{RegistrationReject}
use Rattle.mm_messages.specs.declared.registration.RegistrationRequest.{RegistrationRequest}
use Rattle.mm_messages.specs.declared.deregistration.DeregistrationRequestUeOriginating.{DeregistrationRequestUeOriginating}
use Rattle.mm_messages.specs.declared.deregistration.DeregistrationRequestUeTerminated.{DeregistrationRequestUeTerminated}
use Rattle.mm_messages.specs.declared.service.ServiceAccept.{ServiceAccept}
use Rattle.mm_messages.specs.declared.service.ServiceReject.{ServiceReject}
use Rattle.mm_messages.specs.declared.service.ServiceRequest.{ServiceRequest}
use Rattle.mm_messages.specs.declared.configuration_update.ConfigurationUpdateCommand.{ConfigurationUpdateCommand}
use Rattle.mm_messages.specs.declared.authentication.AuthenticationFailure.{AuthenticationFailure}
use Rattle.mm_messages.specs.declared.authentication.AuthenticationRequest.{AuthenticationRequest}
use Rattle.mm_messages.specs.declared.authentication.AuthenticationResponse.{AuthenticationResponse}
use Rattle.mm_messages.specs.declared.identification.IdentityRequest.{IdentityRequest}
use Rattle.mm_messages.specs.declared.identification.IdentityResponse.{IdentityResponse}
use Rattle.mm_messages.specs.declared.security_mode.SecurityModeCommand.{SecurityModeCommand}
use Rattle.mm_messages.specs.declared.security_mode.SecurityModeComplete.{SecurityModeComplete}
use Rattle.mm_messages.specs.declared.security_mode.SecurityModeReject.{SecurityModeReject}
use Rattle.mm_messages.specs.declared.status_message.FiveGmmStatus.{FiveGmmStatus}
use Rattle.mm_messages.specs.declared.transport.DlNasTransport.{DlNasTransport}
use Rattle.mm_messages.specs.declared.transport.UlNasTransport.{UlNasTransport}
use Rattle.mm_messages.specs.declared.message.Mm.{Mm}
use Rattle.mm_messages.specs.declared.message.Mm.TheVariants as mm
use Rattle.mm_messages.specs.declared.message.MmRefusal.{MmRefusal}
use Rattle.mm_messages.specs.declared.message.MmRefusal.TheVariants.{Ignored, UnknownType, Mandatory, Memory}

-- a kind of message: its parts and elements, the table of these, and the message that they are
pub record Tabled : Type 1 where
  pub Fields : Type 0
  pub table : Table Fields
  pub made : Fields → Mm

-- a message of its head alone
abbrev pub head_alone : Mm → Tabled
head_alone m = record { Fields = Unit {0}; table = elements (message tt); made = λ nothing. m }

abbrev pub tabled : MmKind → Tabled
tabled kinds.RegistrationRequest = record { Fields = RegistrationRequest; table = registration_request; made = λ m. mm.RegistrationRequest m }
tabled kinds.RegistrationAccept = record { Fields = RegistrationAccept; table = registration_accept; made = λ m. mm.RegistrationAccept m }
tabled kinds.RegistrationComplete = head_alone mm.RegistrationComplete
tabled kinds.RegistrationReject = record { Fields = RegistrationReject; table = registration_reject; made = λ m. mm.RegistrationReject m }
tabled kinds.DeregistrationRequestUeOriginating = record { Fields = DeregistrationRequestUeOriginating; table = deregistration_request_ue_originating; made = λ m. mm.DeregistrationRequestUeOriginating m }
tabled kinds.DeregistrationAcceptUeOriginating = head_alone mm.DeregistrationAcceptUeOriginating
tabled kinds.DeregistrationRequestUeTerminated = record { Fields = DeregistrationRequestUeTerminated; table = deregistration_request_ue_terminated; made = λ m. mm.DeregistrationRequestUeTerminated m }
tabled kinds.DeregistrationAcceptUeTerminated = head_alone mm.DeregistrationAcceptUeTerminated
tabled kinds.ServiceRequest = record { Fields = ServiceRequest; table = service_request; made = λ m. mm.ServiceRequest m }
tabled kinds.ServiceReject = record { Fields = ServiceReject; table = service_reject; made = λ m. mm.ServiceReject m }
tabled kinds.ServiceAccept = record { Fields = ServiceAccept; table = service_accept; made = λ m. mm.ServiceAccept m }
tabled kinds.ConfigurationUpdateCommand = record { Fields = ConfigurationUpdateCommand; table = configuration_update_command; made = λ m. mm.ConfigurationUpdateCommand m }
tabled kinds.ConfigurationUpdateComplete = head_alone mm.ConfigurationUpdateComplete
tabled kinds.AuthenticationRequest = record { Fields = AuthenticationRequest; table = authentication_request; made = λ m. mm.AuthenticationRequest m }
tabled kinds.AuthenticationResponse = record { Fields = AuthenticationResponse; table = authentication_response; made = λ m. mm.AuthenticationResponse m }
tabled kinds.AuthenticationReject = head_alone mm.AuthenticationReject
tabled kinds.AuthenticationFailure = record { Fields = AuthenticationFailure; table = authentication_failure; made = λ m. mm.AuthenticationFailure m }
tabled kinds.IdentityRequest = record { Fields = IdentityRequest; table = identity_request; made = λ m. mm.IdentityRequest m }
tabled kinds.IdentityResponse = record { Fields = IdentityResponse; table = identity_response; made = λ m. mm.IdentityResponse m }
tabled kinds.SecurityModeCommand = record { Fields = SecurityModeCommand; table = security_mode_command; made = λ m. mm.SecurityModeCommand m }
tabled kinds.SecurityModeComplete = record { Fields = SecurityModeComplete; table = security_mode_complete; made = λ m. mm.SecurityModeComplete m }
tabled kinds.SecurityModeReject = record { Fields = SecurityModeReject; table = security_mode_reject; made = λ m. mm.SecurityModeReject m }
tabled kinds.FiveGmmStatus = record { Fields = FiveGmmStatus; table = five_gmm_status; made = λ m. mm.FiveGmmStatus m }
tabled kinds.UlNasTransport = record { Fields = UlNasTransport; table = ul_nas_transport; made = λ m. mm.UlNasTransport m }
tabled kinds.DlNasTransport = record { Fields = DlNasTransport; table = dl_nas_transport; made = λ m. mm.DlNasTransport m }

-- the pieces of a message behind its head, by its table
abbrev pub pieces_of : Mm → List Piece
pieces_of (mm.RegistrationRequest m) = pieces registration_request m
pieces_of (mm.RegistrationAccept m) = pieces registration_accept m
pieces_of mm.RegistrationComplete = []
pieces_of (mm.RegistrationReject m) = pieces registration_reject m
pieces_of (mm.DeregistrationRequestUeOriginating m) = pieces deregistration_request_ue_originating m
pieces_of mm.DeregistrationAcceptUeOriginating = []
pieces_of (mm.DeregistrationRequestUeTerminated m) = pieces deregistration_request_ue_terminated m
pieces_of mm.DeregistrationAcceptUeTerminated = []
pieces_of (mm.ServiceRequest m) = pieces service_request m
pieces_of (mm.ServiceReject m) = pieces service_reject m
pieces_of (mm.ServiceAccept m) = pieces service_accept m
pieces_of (mm.ConfigurationUpdateCommand m) = pieces configuration_update_command m
pieces_of mm.ConfigurationUpdateComplete = []
pieces_of (mm.AuthenticationRequest m) = pieces authentication_request m
pieces_of (mm.AuthenticationResponse m) = pieces authentication_response m
pieces_of mm.AuthenticationReject = []
pieces_of (mm.AuthenticationFailure m) = pieces authentication_failure m
pieces_of (mm.IdentityRequest m) = pieces identity_request m
pieces_of (mm.IdentityResponse m) = pieces identity_response m
pieces_of (mm.SecurityModeCommand m) = pieces security_mode_command m
pieces_of (mm.SecurityModeComplete m) = pieces security_mode_complete m
pieces_of (mm.SecurityModeReject m) = pieces security_mode_reject m
pieces_of (mm.FiveGmmStatus m) = pieces five_gmm_status m
pieces_of (mm.UlNasTransport m) = pieces ul_nas_transport m
pieces_of (mm.DlNasTransport m) = pieces dl_nas_transport m

-- a message as it is written
abbrev pub spelling : Mm → List ℕ
spelling m = head (mm_type (kind_of m)) ++ pieces_octets (pieces_of m)

-- what was read behind the head, as a reading of the whole
abbrev pub told : {A : Type 0} → (A → Mm) → Result A BodyRefusal → Result Mm MmRefusal
told made (Ok fields) = Ok (made fields)
told made (Err (body.Mandatory n at)) = Err (Mandatory n at)
told made (Err body.Memory) = Err Memory

-- what stands behind the head, by the message type
abbrev pub body_at : Option MmKind → ℕ → Place → Result Mm MmRefusal
body_at None code p = Err (UnknownType code)
body_at (Some kind) code p = told (tabled kind).made (laid (tabled kind).table 1 p)

-- the place behind the head
abbrev pub behind_head : List ℕ → Place
behind_head octets = record { at = 3; left = drop 3 octets }

-- The message in the octets. Those with another protocol discriminator or header type, or too few for a message type, are
-- no plain 5GMM message.
unfoldable pub mm_in : List ℕ → Result Mm MmRefusal
mm_in octets =
    if nat_lt 0 (length octets) && not (slice_index octets 0 == 0x7e) then Err (Ignored 0)
    else (if nat_lt 1 (length octets) && not (slice_index octets 1 % 16 == 0) then Err (Ignored 1)
    else (if nat_lt (length octets) 3 then Err (Ignored (length octets))
    else body_at (mm_kind (slice_index octets 2)) (slice_index octets 2) (behind_head octets)))

-- whether a part or an element behind the head is kept as its octets
abbrev pub keeps_at : Option MmKind → Place → Bool
keeps_at None p = false
keeps_at (Some kind) p = keeps (tabled kind).table 1 p

abbrev pub keeps_octets : List ℕ → Bool
keeps_octets octets = keeps_at (mm_kind (slice_index octets 2)) (behind_head octets)

-- what a decoder answered; memory may be wanting where a part or an element is kept as its octets, and only there
abbrev pub Decodes : Result Mm MmRefusal → List ℕ → Type 0
Decodes (Ok m) octets = mm_in octets ≡ Ok m
Decodes (Err Memory) octets = keeps_octets octets ≡ true
Decodes (Err (Ignored at)) octets = mm_in octets ≡ Err (Ignored at)
Decodes (Err (UnknownType n)) octets = mm_in octets ≡ Err (UnknownType n)
Decodes (Err (Mandatory n at)) octets = mm_in octets ≡ Err (Mandatory n at)

-- Octets spell a message: the protocol discriminator, a header type 0 under any spare half, the type of a kind, and what its
-- table says of the rest.
pub record SpellsMessage (octets : List ℕ) (m : Mm) : Type 0 where
  pub second : ℕ
  pub kind : MmKind
  pub rest : List ℕ
  pub fields : (tabled kind).Fields
  pub whole : octets ≡ 0x7e ∷ second ∷ mm_type kind ∷ rest
  pub plain : second % 16 ≡ 0
  pub body : Spells (tabled kind).table rest fields
  pub made : m ≡ (tabled kind).made fields
