-- The kind of a message.
use Rattle.nas_base.specs.declared.sm_kind.SmKind.{SmKind}
use Rattle.nas_base.specs.declared.sm_kind.SmKind.TheVariants as kinds
use Rattle.sm_messages.specs.declared.message.Sm.{Sm}
use Rattle.sm_messages.specs.declared.message.Sm.TheVariants as sm

abbrev pub kind_of : Sm → SmKind
kind_of (sm.PduSessionEstablishmentRequest m) = kinds.PduSessionEstablishmentRequest
kind_of (sm.PduSessionEstablishmentAccept m) = kinds.PduSessionEstablishmentAccept
kind_of (sm.PduSessionEstablishmentReject m) = kinds.PduSessionEstablishmentReject
kind_of (sm.PduSessionModificationRequest m) = kinds.PduSessionModificationRequest
kind_of (sm.PduSessionModificationReject m) = kinds.PduSessionModificationReject
kind_of (sm.PduSessionModificationCommand m) = kinds.PduSessionModificationCommand
kind_of sm.PduSessionModificationComplete = kinds.PduSessionModificationComplete
kind_of (sm.PduSessionModificationCommandReject m) = kinds.PduSessionModificationCommandReject
kind_of (sm.PduSessionReleaseRequest m) = kinds.PduSessionReleaseRequest
kind_of (sm.PduSessionReleaseReject m) = kinds.PduSessionReleaseReject
kind_of (sm.PduSessionReleaseCommand m) = kinds.PduSessionReleaseCommand
kind_of (sm.PduSessionReleaseComplete m) = kinds.PduSessionReleaseComplete
kind_of (sm.FiveGsmStatus m) = kinds.FiveGsmStatus
