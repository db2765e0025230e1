-- A body of each kind is read by its table.
use Rattle.std.proofs.Common.{refl}
use Rattle.nas_base.specs.declared.sm_kind.SmKind.TheVariants as kinds
use Rattle.sm_messages.proofs.Bodies.{taken}
use Rattle.sm_messages.proofs.message.read_body.Goals as goal

pub returns-in_ok-read-in-PduSessionEstablishmentRequest : goal.returns-in_ok-read-in-PduSessionEstablishmentRequest
returns-in_ok-read-in-PduSessionEstablishmentRequest c =
    taken c.args.kind kinds.PduSessionEstablishmentRequest c.args.reader.now c.in_ok-read-in-PduSessionEstablishmentRequest.field-0 c.in-PduSessionEstablishmentRequest.is c.in_ok-read-in-PduSessionEstablishmentRequest.ensures

pub returns-in_ok-read-in-PduSessionEstablishmentAccept : goal.returns-in_ok-read-in-PduSessionEstablishmentAccept
returns-in_ok-read-in-PduSessionEstablishmentAccept c =
    taken c.args.kind kinds.PduSessionEstablishmentAccept c.args.reader.now c.in_ok-read-in-PduSessionEstablishmentAccept.field-0 c.in-PduSessionEstablishmentAccept.is c.in_ok-read-in-PduSessionEstablishmentAccept.ensures

pub returns-in_ok-read-in-PduSessionEstablishmentReject : goal.returns-in_ok-read-in-PduSessionEstablishmentReject
returns-in_ok-read-in-PduSessionEstablishmentReject c =
    taken c.args.kind kinds.PduSessionEstablishmentReject c.args.reader.now c.in_ok-read-in-PduSessionEstablishmentReject.field-0 c.in-PduSessionEstablishmentReject.is c.in_ok-read-in-PduSessionEstablishmentReject.ensures

pub returns-in_ok-read-in-PduSessionModificationRequest : goal.returns-in_ok-read-in-PduSessionModificationRequest
returns-in_ok-read-in-PduSessionModificationRequest c =
    taken c.args.kind kinds.PduSessionModificationRequest c.args.reader.now c.in_ok-read-in-PduSessionModificationRequest.field-0 c.in-PduSessionModificationRequest.is c.in_ok-read-in-PduSessionModificationRequest.ensures

pub returns-in_ok-read-in-PduSessionModificationReject : goal.returns-in_ok-read-in-PduSessionModificationReject
returns-in_ok-read-in-PduSessionModificationReject c =
    taken c.args.kind kinds.PduSessionModificationReject c.args.reader.now c.in_ok-read-in-PduSessionModificationReject.field-0 c.in-PduSessionModificationReject.is c.in_ok-read-in-PduSessionModificationReject.ensures

pub returns-in_ok-read-in-PduSessionModificationCommand : goal.returns-in_ok-read-in-PduSessionModificationCommand
returns-in_ok-read-in-PduSessionModificationCommand c =
    taken c.args.kind kinds.PduSessionModificationCommand c.args.reader.now c.in_ok-read-in-PduSessionModificationCommand.field-0 c.in-PduSessionModificationCommand.is c.in_ok-read-in-PduSessionModificationCommand.ensures

pub returns-in-PduSessionModificationComplete : goal.returns-in-PduSessionModificationComplete
returns-in-PduSessionModificationComplete c = taken c.args.kind kinds.PduSessionModificationComplete c.args.reader.now tt c.in-PduSessionModificationComplete.is refl

pub returns-in_ok-read-in-PduSessionModificationCommandReject : goal.returns-in_ok-read-in-PduSessionModificationCommandReject
returns-in_ok-read-in-PduSessionModificationCommandReject c =
    taken c.args.kind kinds.PduSessionModificationCommandReject c.args.reader.now c.in_ok-read-in-PduSessionModificationCommandReject.field-0 c.in-PduSessionModificationCommandReject.is c.in_ok-read-in-PduSessionModificationCommandReject.ensures

pub returns-in_ok-read-in-PduSessionReleaseRequest : goal.returns-in_ok-read-in-PduSessionReleaseRequest
returns-in_ok-read-in-PduSessionReleaseRequest c =
    taken c.args.kind kinds.PduSessionReleaseRequest c.args.reader.now c.in_ok-read-in-PduSessionReleaseRequest.field-0 c.in-PduSessionReleaseRequest.is c.in_ok-read-in-PduSessionReleaseRequest.ensures

pub returns-in_ok-read-in-PduSessionReleaseReject : goal.returns-in_ok-read-in-PduSessionReleaseReject
returns-in_ok-read-in-PduSessionReleaseReject c =
    taken c.args.kind kinds.PduSessionReleaseReject c.args.reader.now c.in_ok-read-in-PduSessionReleaseReject.field-0 c.in-PduSessionReleaseReject.is c.in_ok-read-in-PduSessionReleaseReject.ensures

pub returns-in_ok-read-in-PduSessionReleaseCommand : goal.returns-in_ok-read-in-PduSessionReleaseCommand
returns-in_ok-read-in-PduSessionReleaseCommand c =
    taken c.args.kind kinds.PduSessionReleaseCommand c.args.reader.now c.in_ok-read-in-PduSessionReleaseCommand.field-0 c.in-PduSessionReleaseCommand.is c.in_ok-read-in-PduSessionReleaseCommand.ensures

pub returns-in_ok-read-in-PduSessionReleaseComplete : goal.returns-in_ok-read-in-PduSessionReleaseComplete
returns-in_ok-read-in-PduSessionReleaseComplete c =
    taken c.args.kind kinds.PduSessionReleaseComplete c.args.reader.now c.in_ok-read-in-PduSessionReleaseComplete.field-0 c.in-PduSessionReleaseComplete.is c.in_ok-read-in-PduSessionReleaseComplete.ensures

pub returns-in_ok-read-in-FiveGsmStatus : goal.returns-in_ok-read-in-FiveGsmStatus
returns-in_ok-read-in-FiveGsmStatus c =
    taken c.args.kind kinds.FiveGsmStatus c.args.reader.now c.in_ok-read-in-FiveGsmStatus.field-0 c.in-FiveGsmStatus.is c.in_ok-read-in-FiveGsmStatus.ensures
