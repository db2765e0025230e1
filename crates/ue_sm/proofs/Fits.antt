-- What a handset's sessions send fits one message.
use Rattle.std.proofs.Common.{◌≤◌, ℕ, List, length, Some, None, arith}
use Rattle.std.proofs.lemmas.Grind.{common_steps}
use Rattle.sm_messages.specs.Establishment.{pdu_session_establishment_request}
use Rattle.sm_messages.specs.Messages.{spelling}
use Rattle.sm_messages.specs.Modification.{pdu_session_modification_command_reject, pdu_session_modification_request}
use Rattle.sm_messages.specs.Release.{pdu_session_release_complete, pdu_session_release_request}
use Rattle.sm_messages.specs.StatusMessage.{five_gsm_status}
use Rattle.sm_messages.specs.declared.message.Sm.TheVariants as sm
use Rattle.ue_sm.specs.Establishment.{establishment_request}
use Rattle.ue_sm.specs.NetworkCommands.{message_of}
use Rattle.ue_sm.specs.declared.cells.Answer.{Answer}
use Rattle.ue_sm.specs.declared.cells.Answer.TheVariants.{Complete, Refused, Mismatch}

pub status_fits : (psi pti n : ℕ)
    → length (spelling (record { psi = psi; pti = pti; body = sm.FiveGsmStatus (record { cause = n }) })) ≤ 4096
unfolding five_gsm_status
status_fits psi pti n = omega arith

pub answer_fits : (psi pti : ℕ) (answer : Answer)
    → length (spelling (record { psi = psi; pti = pti; body = message_of answer })) ≤ 4096
unfolding five_gsm_status pdu_session_modification_command_reject
answer_fits psi pti Complete = omega arith
answer_fits psi pti (Refused n) = omega arith
answer_fits psi pti Mismatch = omega arith

pub release_complete_fits : (psi pti : ℕ)
    → length (spelling (record { psi = psi; pti = pti; body = sm.PduSessionReleaseComplete (record { cause = None }) })) ≤ 4096
unfolding pdu_session_release_complete
release_complete_fits psi pti = omega arith

pub release_request_fits : (psi pti n : ℕ)
    → length (spelling (record { psi = psi; pti = pti; body = sm.PduSessionReleaseRequest (record { cause = Some n }) })) ≤ 4096
unfolding pdu_session_release_request
release_request_fits psi pti n = omega arith

pub establishment_request_fits : (psi pti kind : ℕ)
    → length (spelling (record { psi = psi; pti = pti; body = establishment_request kind })) ≤ 4096
unfolding pdu_session_establishment_request
establishment_request_fits psi pti kind = omega arith

pub modification_request_fits : (psi pti : ℕ) (octets : List ℕ) → length octets ≤ 2048
    → length (spelling (record { psi = psi; pti = pti; body = sm.PduSessionModificationRequest (record { cause = None; rules = Some octets }) })) ≤ 4096
unfolding pdu_session_modification_request
modification_request_fits psi pti octets few = grind (arith, common_steps)
