-- What the SMF sends fits one message.
use Rattle.std.proofs.Common.{◌≡◌, ℕ, ◌≤◌, ◌+◌, true, List, ◌∷◌, length, Option, Some, None, arith, length-append}
use Rattle.std.proofs.lemmas.Bool.Decides.{nat_tests}
use Rattle.std.proofs.lemmas.Grind.{common_steps}
use Rattle.byteorder.specs.Endian.{big_bytes}
use Rattle.byteorder.specs.Numbers.{length-bytes_high_first}
use Rattle.nas_elements.specs.Address.{address_octets}
use Rattle.nas_elements.specs.Ambr.{ambr_octets}
use Rattle.nas_elements.specs.Slice.{slice_octets}
use Rattle.nas_elements.specs.declared.address.Address.{Address}
use Rattle.nas_elements.specs.declared.ambr.Ambr.{Ambr}
use Rattle.nas_elements.specs.declared.slice.Slice.{Slice}
use Rattle.nas_layout.specs.Pieces.{pieces_octets}
use Rattle.nas_layout.specs.Table.{pieces}
use Rattle.nas_qos.specs.Operations.{Operation, is_ops, ops_octets}
use Rattle.sm_messages.specs.Establishment.{pdu_session_establishment_accept, pdu_session_establishment_reject}
use Rattle.sm_messages.specs.Messages.{spelling}
use Rattle.sm_messages.specs.Modification.{pdu_session_modification_command, pdu_session_modification_reject}
use Rattle.sm_messages.specs.Release.{pdu_session_release_command, pdu_session_release_reject}
use Rattle.sm_messages.specs.StatusMessage.{five_gsm_status}
use Rattle.sm_messages.specs.declared.message.Sm.TheVariants as sm
use Rattle.smf_core.specs.Establishment.{accept, default_rules_octets, kind_of_address, narrowed}
use Rattle.smf_core.specs.Modification.{modification_command}
use Rattle.smf_core.specs.Work.{frame}
use Rattle.smf_core.specs.declared.establishment.Asked.{Asked}

pub status_fits : (psi pti n : ℕ) → length (spelling (frame psi pti (sm.FiveGsmStatus (record { cause = n })))) ≤ 4096
unfolding five_gsm_status
status_fits psi pti n = grind (arith, common_steps)

pub release_command_fits : (psi pti n : ℕ)
    → length (spelling (frame psi pti (sm.PduSessionReleaseCommand (record { cause = n })))) ≤ 4096
unfolding pdu_session_release_command
release_command_fits psi pti n = grind (arith, common_steps)

pub release_reject_fits : (psi pti n : ℕ)
    → length (spelling (frame psi pti (sm.PduSessionReleaseReject (record { cause = n })))) ≤ 4096
unfolding pdu_session_release_reject
release_reject_fits psi pti n = grind (arith, common_steps)

pub modification_reject_fits : (psi pti n : ℕ)
    → length (spelling (frame psi pti (sm.PduSessionModificationReject (record { cause = n })))) ≤ 4096
unfolding pdu_session_modification_reject
modification_reject_fits psi pti n = grind (arith, common_steps)

pub establishment_reject_fits : (psi pti n : ℕ)
    → length (spelling (frame psi pti (sm.PduSessionEstablishmentReject (record { cause = n })))) ≤ 4096
unfolding pdu_session_establishment_reject
establishment_reject_fits psi pti n = grind (arith, common_steps)

-- numbers of two octets
two_octets : (n : ℕ) → length (big_bytes 2 n) ≡ 2
two_octets n = length-bytes_high_first 2 n

ambr_size : (a : Ambr) → length (ambr_octets a) ≡ 6
ambr_size a =
    let sum = length-append (big_bytes 2 a.down) (a.up_unit ∷ big_bytes 2 a.up) in omega (arith, sum, two_octets a.down, two_octets a.up)

-- the pieces of a message behind its head
command_pieces : (ambr : Option Ambr) (rules : List ℕ)
    → length (pieces_octets (pieces pdu_session_modification_command (record { cause = None; ambr = ambr; rules = Some rules }))) ≤ 11 + length rules
unfolding pdu_session_modification_command
command_pieces None rules =
    let width = two_octets (length rules) in grind (arith, common_steps, width)
command_pieces (Some a) rules =
    let width = two_octets (length rules) in
    let six = ambr_size a in
    grind (arith, common_steps, width, six)

pub modification_command_fits : (psi pti : ℕ) (ambr : Option Ambr) (ops : List Operation)
    → length (ops_octets ops) ≤ 2048
    → length (spelling (frame psi pti (modification_command ambr ops))) ≤ 4096
modification_command_fits psi pti ambr ops short =
    let pieces = command_pieces ambr (ops_octets ops) in grind (arith, common_steps, pieces, short)

accept_pieces : (kind : ℕ) (ambr : Ambr) (cause : Option ℕ) (address : Address) (slice : Slice) (dnn : List ℕ)
    → length (address_octets address) ≤ 13 → length (slice_octets slice) ≤ 4 → length dnn ≤ 100
    → length (pieces_octets (pieces pdu_session_establishment_accept (record {
      session_type = kind;
      ssc_mode = 1;
      rules = default_rules_octets;
      ambr = ambr;
      cause = cause;
      address = Some address;
      slice = Some slice;
      flows = Some (record {});
      dnn = Some dnn;
    }))) ≤ 200
unfolding pdu_session_establishment_accept
accept_pieces kind ambr None address slice dnn a s d =
    let six = ambr_size ambr in grind (arith, common_steps, six, a, s, d)
accept_pieces kind ambr (Some n) address slice dnn a s d =
    let six = ambr_size ambr in grind (arith, common_steps, six, a, s, d)

pub accept_fits : (psi pti : ℕ) (asked : Asked) (address : Address) (ambr : Ambr)
    → length (address_octets address) ≤ 13 → length (slice_octets asked.slice) ≤ 4 → length asked.dnn ≤ 100
    → length (spelling (frame psi pti (accept asked address ambr))) ≤ 4096
accept_fits psi pti asked address ambr a s d =
    let pieces = accept_pieces (kind_of_address address) ambr (narrowed asked.kind asked.kinds) address asked.slice asked.dnn a s d in
    grind (arith, common_steps, pieces)

pub ops_short : (ops : List Operation) → is_ops ops ≡ true → length (ops_octets ops) ≤ 2048
ops_short ops right = grind (arith, nat_tests, right)
