-- A message of each kind is read back by its table.
use Rattle.std.proofs.Common.{refl}
use Rattle.nas_base.specs.declared.sm_kind.SmKind.TheVariants as kinds
use Rattle.sm_messages.proofs.Back.{back}
use Rattle.sm_messages.proofs.laws.message_is_read_back.Goals as goal

pub returns-in-PduSessionEstablishmentRequest : goal.returns-in-PduSessionEstablishmentRequest
returns-in-PduSessionEstablishmentRequest c = rw c.in-PduSessionEstablishmentRequest.is (back c.args.psi c.args.pti kinds.PduSessionEstablishmentRequest c.in-PduSessionEstablishmentRequest.message c.is_read_back.ensures)

pub returns-in-PduSessionEstablishmentAccept : goal.returns-in-PduSessionEstablishmentAccept
returns-in-PduSessionEstablishmentAccept c = rw c.in-PduSessionEstablishmentAccept.is (back c.args.psi c.args.pti kinds.PduSessionEstablishmentAccept c.in-PduSessionEstablishmentAccept.message c.is_read_back-in-PduSessionEstablishmentAccept.ensures)

pub returns-in-PduSessionEstablishmentReject : goal.returns-in-PduSessionEstablishmentReject
returns-in-PduSessionEstablishmentReject c = rw c.in-PduSessionEstablishmentReject.is (back c.args.psi c.args.pti kinds.PduSessionEstablishmentReject c.in-PduSessionEstablishmentReject.message c.is_read_back-in-PduSessionEstablishmentReject.ensures)

pub returns-in-PduSessionModificationRequest : goal.returns-in-PduSessionModificationRequest
returns-in-PduSessionModificationRequest c = rw c.in-PduSessionModificationRequest.is (back c.args.psi c.args.pti kinds.PduSessionModificationRequest c.in-PduSessionModificationRequest.message c.is_read_back-in-PduSessionModificationRequest.ensures)

pub returns-in-PduSessionModificationReject : goal.returns-in-PduSessionModificationReject
returns-in-PduSessionModificationReject c = rw c.in-PduSessionModificationReject.is (back c.args.psi c.args.pti kinds.PduSessionModificationReject c.in-PduSessionModificationReject.message c.is_read_back-in-PduSessionModificationReject.ensures)

pub returns-in-PduSessionModificationCommand : goal.returns-in-PduSessionModificationCommand
returns-in-PduSessionModificationCommand c = rw c.in-PduSessionModificationCommand.is (back c.args.psi c.args.pti kinds.PduSessionModificationCommand c.in-PduSessionModificationCommand.message c.is_read_back-in-PduSessionModificationCommand.ensures)

pub returns-in-PduSessionModificationComplete : goal.returns-in-PduSessionModificationComplete
returns-in-PduSessionModificationComplete c = rw c.in-PduSessionModificationComplete.is (back c.args.psi c.args.pti kinds.PduSessionModificationComplete tt (refl, refl))

pub returns-in-PduSessionModificationCommandReject : goal.returns-in-PduSessionModificationCommandReject
returns-in-PduSessionModificationCommandReject c = rw c.in-PduSessionModificationCommandReject.is (back c.args.psi c.args.pti kinds.PduSessionModificationCommandReject c.in-PduSessionModificationCommandReject.message c.is_read_back-in-PduSessionModificationCommandReject.ensures)

pub returns-in-PduSessionReleaseRequest : goal.returns-in-PduSessionReleaseRequest
returns-in-PduSessionReleaseRequest c = rw c.in-PduSessionReleaseRequest.is (back c.args.psi c.args.pti kinds.PduSessionReleaseRequest c.in-PduSessionReleaseRequest.message c.is_read_back-in-PduSessionReleaseRequest.ensures)

pub returns-in-PduSessionReleaseReject : goal.returns-in-PduSessionReleaseReject
returns-in-PduSessionReleaseReject c = rw c.in-PduSessionReleaseReject.is (back c.args.psi c.args.pti kinds.PduSessionReleaseReject c.in-PduSessionReleaseReject.message c.is_read_back-in-PduSessionReleaseReject.ensures)

pub returns-in-PduSessionReleaseCommand : goal.returns-in-PduSessionReleaseCommand
returns-in-PduSessionReleaseCommand c = rw c.in-PduSessionReleaseCommand.is (back c.args.psi c.args.pti kinds.PduSessionReleaseCommand c.in-PduSessionReleaseCommand.message c.is_read_back-in-PduSessionReleaseCommand.ensures)

pub returns-in-PduSessionReleaseComplete : goal.returns-in-PduSessionReleaseComplete
returns-in-PduSessionReleaseComplete c = rw c.in-PduSessionReleaseComplete.is (back c.args.psi c.args.pti kinds.PduSessionReleaseComplete c.in-PduSessionReleaseComplete.message c.is_read_back-in-PduSessionReleaseComplete.ensures)

pub returns-in-FiveGsmStatus : goal.returns-in-FiveGsmStatus
returns-in-FiveGsmStatus c = rw c.in-FiveGsmStatus.is (back c.args.psi c.args.pti kinds.FiveGsmStatus c.in-FiveGsmStatus.message c.is_read_back-in-FiveGsmStatus.ensures)
