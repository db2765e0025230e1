-- The kinds of messages and their types (TS 24.501 clause 9.7).
use Rattle.std.specs.Prelude.{◌≡◌, ℕ, List, [], ◌∷◌, ◌==◌, Option, Some, None, if◌then◌else◌}
use Rattle.nas_base.specs.declared.mm_kind.MmKind.{MmKind}
use Rattle.nas_base.specs.declared.mm_kind.MmKind.TheVariants.{RegistrationRequest, RegistrationAccept, RegistrationComplete, RegistrationReject, DeregistrationRequestUeOriginating, DeregistrationAcceptUeOriginating, DeregistrationRequestUeTerminated, DeregistrationAcceptUeTerminated, ServiceRequest, ServiceReject, ServiceAccept, ConfigurationUpdateCommand, ConfigurationUpdateComplete, AuthenticationRequest, AuthenticationResponse, AuthenticationReject, AuthenticationFailure, IdentityRequest, IdentityResponse, SecurityModeCommand, SecurityModeComplete, SecurityModeReject, FiveGmmStatus, UlNasTransport, DlNasTransport}
use Rattle.nas_base.specs.declared.sm_kind.SmKind.{SmKind}
use Rattle.nas_base.specs.declared.sm_kind.SmKind.TheVariants.{PduSessionEstablishmentRequest, PduSessionEstablishmentAccept, PduSessionEstablishmentReject, PduSessionModificationRequest, PduSessionModificationReject, PduSessionModificationCommand, PduSessionModificationComplete, PduSessionModificationCommandReject, PduSessionReleaseRequest, PduSessionReleaseReject, PduSessionReleaseCommand, PduSessionReleaseComplete, FiveGsmStatus}

-- the kind beside a message type, in a table
abbrev pub kind_among : {K : Type 0} → List (ℕ × K) → ℕ → Option K
kind_among [] code = None
kind_among (entry ∷ rest) code = if code == entry.0 then Some entry.1 else kind_among rest code

-- 5GMM (table 9.7.1)
abbrev pub mm_type : MmKind → ℕ
mm_type RegistrationRequest = 0x41
mm_type RegistrationAccept = 0x42
mm_type RegistrationComplete = 0x43
mm_type RegistrationReject = 0x44
mm_type DeregistrationRequestUeOriginating = 0x45
mm_type DeregistrationAcceptUeOriginating = 0x46
mm_type DeregistrationRequestUeTerminated = 0x47
mm_type DeregistrationAcceptUeTerminated = 0x48
mm_type ServiceRequest = 0x4c
mm_type ServiceReject = 0x4d
mm_type ServiceAccept = 0x4e
mm_type ConfigurationUpdateCommand = 0x54
mm_type ConfigurationUpdateComplete = 0x55
mm_type AuthenticationRequest = 0x56
mm_type AuthenticationResponse = 0x57
mm_type AuthenticationReject = 0x58
mm_type AuthenticationFailure = 0x59
mm_type IdentityRequest = 0x5b
mm_type IdentityResponse = 0x5c
mm_type SecurityModeCommand = 0x5d
mm_type SecurityModeComplete = 0x5e
mm_type SecurityModeReject = 0x5f
mm_type FiveGmmStatus = 0x64
mm_type UlNasTransport = 0x67
mm_type DlNasTransport = 0x68

-- the same table by type
abbrev pub mm_kinds : List (ℕ × MmKind)
mm_kinds =
    (0x41, RegistrationRequest)
    ∷ (0x42, RegistrationAccept)
    ∷ (0x43, RegistrationComplete)
    ∷ (0x44, RegistrationReject)
    ∷ (0x45, DeregistrationRequestUeOriginating)
    ∷ (0x46, DeregistrationAcceptUeOriginating)
    ∷ (0x47, DeregistrationRequestUeTerminated)
    ∷ (0x48, DeregistrationAcceptUeTerminated)
    ∷ (0x4c, ServiceRequest)
    ∷ (0x4d, ServiceReject)
    ∷ (0x4e, ServiceAccept)
    ∷ (0x54, ConfigurationUpdateCommand)
    ∷ (0x55, ConfigurationUpdateComplete)
    ∷ (0x56, AuthenticationRequest)
    ∷ (0x57, AuthenticationResponse)
    ∷ (0x58, AuthenticationReject)
    ∷ (0x59, AuthenticationFailure)
    ∷ (0x5b, IdentityRequest)
    ∷ (0x5c, IdentityResponse)
    ∷ (0x5d, SecurityModeCommand)
    ∷ (0x5e, SecurityModeComplete)
    ∷ (0x5f, SecurityModeReject)
    ∷ (0x64, FiveGmmStatus)
    ∷ (0x67, UlNasTransport)
    ∷ (0x68, DlNasTransport)
    ∷ []

-- the kind of a type
abbrev pub mm_kind : ℕ → Option MmKind
mm_kind code = kind_among mm_kinds code

-- 5GSM (table 9.7.2)
abbrev pub sm_type : SmKind → ℕ
sm_type PduSessionEstablishmentRequest = 0xc1
sm_type PduSessionEstablishmentAccept = 0xc2
sm_type PduSessionEstablishmentReject = 0xc3
sm_type PduSessionModificationRequest = 0xc9
sm_type PduSessionModificationReject = 0xca
sm_type PduSessionModificationCommand = 0xcb
sm_type PduSessionModificationComplete = 0xcc
sm_type PduSessionModificationCommandReject = 0xcd
sm_type PduSessionReleaseRequest = 0xd1
sm_type PduSessionReleaseReject = 0xd2
sm_type PduSessionReleaseCommand = 0xd3
sm_type PduSessionReleaseComplete = 0xd4
sm_type FiveGsmStatus = 0xd6

-- the same table by type
abbrev pub sm_kinds : List (ℕ × SmKind)
sm_kinds =
    (0xc1, PduSessionEstablishmentRequest)
    ∷ (0xc2, PduSessionEstablishmentAccept)
    ∷ (0xc3, PduSessionEstablishmentReject)
    ∷ (0xc9, PduSessionModificationRequest)
    ∷ (0xca, PduSessionModificationReject)
    ∷ (0xcb, PduSessionModificationCommand)
    ∷ (0xcc, PduSessionModificationComplete)
    ∷ (0xcd, PduSessionModificationCommandReject)
    ∷ (0xd1, PduSessionReleaseRequest)
    ∷ (0xd2, PduSessionReleaseReject)
    ∷ (0xd3, PduSessionReleaseCommand)
    ∷ (0xd4, PduSessionReleaseComplete)
    ∷ (0xd6, FiveGsmStatus)
    ∷ []

-- the kind of a type
abbrev pub sm_kind : ℕ → Option SmKind
sm_kind code = kind_among sm_kinds code

-- A message type names a kind exactly where it is that kind's: from the type of a kind comes that kind, and a type gives a kind only
-- where it is its own.
pub record TypesNameKinds {K : Type 0} (type_of : K → ℕ) (kind_of : ℕ → Option K) : Type 0 where
  pub found : (k : K) → kind_of (type_of k) ≡ Some k
  pub only : (code : ℕ) (k : K) → kind_of code ≡ Some k → type_of k ≡ code

abbrev pub KindsHaveTypes : Type 0
KindsHaveTypes = TypesNameKinds mm_type mm_kind × TypesNameKinds sm_type sm_kind
