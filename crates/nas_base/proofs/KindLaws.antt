-- A message type names a kind exactly where it is that kind's.
use Rattle.std.proofs.Common.{◌≡◌, ℕ, ◌==◌, Bool, true, false, List, [], ◌∷◌, Some, arith, refl}
use Rattle.std.proofs.lemmas.Bool.Decides.{nat_tests}
use Rattle.nas_base.specs.declared.mm_kind.MmKind.{MmKind}
use Rattle.nas_base.specs.declared.mm_kind.MmKind.TheVariants.{RegistrationRequest, RegistrationAccept, RegistrationComplete, RegistrationReject, DeregistrationRequestUeOriginating, DeregistrationAcceptUeOriginating, DeregistrationRequestUeTerminated, DeregistrationAcceptUeTerminated, ServiceRequest, ServiceReject, ServiceAccept, ConfigurationUpdateCommand, ConfigurationUpdateComplete, AuthenticationRequest, AuthenticationResponse, AuthenticationReject, AuthenticationFailure, IdentityRequest, IdentityResponse, SecurityModeCommand, SecurityModeComplete, SecurityModeReject, FiveGmmStatus, UlNasTransport, DlNasTransport}
use Rattle.nas_base.specs.declared.sm_kind.SmKind.{SmKind}
use Rattle.nas_base.specs.declared.sm_kind.SmKind.TheVariants.{PduSessionEstablishmentRequest, PduSessionEstablishmentAccept, PduSessionEstablishmentReject, PduSessionModificationRequest, PduSessionModificationReject, PduSessionModificationCommand, PduSessionModificationComplete, PduSessionModificationCommandReject, PduSessionReleaseRequest, PduSessionReleaseReject, PduSessionReleaseCommand, PduSessionReleaseComplete, FiveGsmStatus}
use Rattle.nas_base.specs.Kinds.{kind_among, mm_type, mm_kinds, mm_kind, sm_type, sm_kinds, sm_kind, KindsHaveTypes}

-- beside each kind of a table stands its type
abbrev pub HasTypes : {K : Type 0} → (K → ℕ) → List (ℕ × K) → Type 0
HasTypes type_of [] = Unit {0}
HasTypes type_of (entry ∷ rest) = (type_of entry.1 ≡ entry.0) × HasTypes type_of rest

-- the first entry is the kind's, or one of the rest is
first_or_later : {K : Type 0} (type_of : K → ℕ) (entry : ℕ × K) (rest : List (ℕ × K)) (code : ℕ) (k : K) (b : Bool) → (code == entry.0) ≡ b →
    type_of entry.1 ≡ entry.0 → (kind_among rest code ≡ Some k → type_of k ≡ code) → kind_among (entry ∷ rest) code ≡ Some k → type_of k ≡ code
first_or_later type_of entry rest code k true is typed later h = grind (arith, nat_tests)
first_or_later type_of entry rest code k false is typed later h = later (rw is at h)

only_own : {K : Type 0} (type_of : K → ℕ) (table : List (ℕ × K)) → HasTypes type_of table → (code : ℕ) (k : K) → kind_among table code ≡ Some k → type_of k ≡ code
only_own type_of [] typed code k h = cc
only_own type_of (entry ∷ rest) typed code k h =
    first_or_later type_of entry rest code k (code == entry.0) refl typed.0 (only_own type_of rest typed.1 code k) h

mm_found : (k : MmKind) → mm_kind (mm_type k) ≡ Some k
mm_found RegistrationRequest = refl
mm_found RegistrationAccept = refl
mm_found RegistrationComplete = refl
mm_found RegistrationReject = refl
mm_found DeregistrationRequestUeOriginating = refl
mm_found DeregistrationAcceptUeOriginating = refl
mm_found DeregistrationRequestUeTerminated = refl
mm_found DeregistrationAcceptUeTerminated = refl
mm_found ServiceRequest = refl
mm_found ServiceReject = refl
mm_found ServiceAccept = refl
mm_found ConfigurationUpdateCommand = refl
mm_found ConfigurationUpdateComplete = refl
mm_found AuthenticationRequest = refl
mm_found AuthenticationResponse = refl
mm_found AuthenticationReject = refl
mm_found AuthenticationFailure = refl
mm_found IdentityRequest = refl
mm_found IdentityResponse = refl
mm_found SecurityModeCommand = refl
mm_found SecurityModeComplete = refl
mm_found SecurityModeReject = refl
mm_found FiveGmmStatus = refl
mm_found UlNasTransport = refl
mm_found DlNasTransport = refl

sm_found : (k : SmKind) → sm_kind (sm_type k) ≡ Some k
sm_found PduSessionEstablishmentRequest = refl
sm_found PduSessionEstablishmentAccept = refl
sm_found PduSessionEstablishmentReject = refl
sm_found PduSessionModificationRequest = refl
sm_found PduSessionModificationReject = refl
sm_found PduSessionModificationCommand = refl
sm_found PduSessionModificationComplete = refl
sm_found PduSessionModificationCommandReject = refl
sm_found PduSessionReleaseRequest = refl
sm_found PduSessionReleaseReject = refl
sm_found PduSessionReleaseCommand = refl
sm_found PduSessionReleaseComplete = refl
sm_found FiveGsmStatus = refl

pub kinds_have_types : KindsHaveTypes
kinds_have_types = (
  record { found = mm_found; only = only_own mm_type mm_kinds (refl, (refl, (refl, (refl, (refl, (refl, (refl, (refl, (refl, (refl, (refl, (refl, (refl, (refl, (refl, (refl, (refl, (refl, (refl, (refl, (refl, (refl, (refl, (refl, (refl, tt))))))))))))))))))))))))) },
  record { found = sm_found; only = only_own sm_type sm_kinds (refl, (refl, (refl, (refl, (refl, (refl, (refl, (refl, (refl, (refl, (refl, (refl, (refl, tt))))))))))))) },
)
