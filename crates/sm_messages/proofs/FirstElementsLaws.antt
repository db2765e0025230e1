-- Further elements of identifiers that stand there already, or that a message doesn't know, change no message.
use Rattle.std.proofs.Common.{◌≡◌, ◌∙◌, ℕ, true, List, ◌++◌, refl, ap, sym}
use Rattle.nas_base.specs.Walking.{RowParts, elements_in}
use Rattle.nas_base.specs.declared.sm_kind.SmKind.{SmKind}
use Rattle.nas_base.specs.declared.sm_kind.SmKind.TheVariants as kinds
use Rattle.nas_layout.proofs.FirstElementsLaws.{HasRows, alike}
use Rattle.nas_layout.specs.FirstElements.{count_nothing, is_walked_whole}
use Rattle.sm_messages.proofs.SpelledLaws.{spelled_found}
use Rattle.sm_messages.specs.FirstElements.{EndsInElements}
use Rattle.sm_messages.specs.Establishment.{pdu_session_establishment_accept, pdu_session_establishment_reject, pdu_session_establishment_request}
use Rattle.sm_messages.specs.Modification.{pdu_session_modification_command, pdu_session_modification_command_reject, pdu_session_modification_reject, pdu_session_modification_request}
use Rattle.sm_messages.specs.Release.{pdu_session_release_command, pdu_session_release_complete, pdu_session_release_reject, pdu_session_release_request}
use Rattle.sm_messages.specs.StatusMessage.{five_gsm_status}
use Rattle.sm_messages.specs.Messages.{SpellsFrame, sm_in, tabled}
use Rattle.sm_messages.specs.declared.message.SmFrame.{SmFrame}

has_rows : (kind : SmKind) → HasRows (tabled kind).table
unfolding pdu_session_establishment_request pdu_session_establishment_accept pdu_session_establishment_reject pdu_session_modification_request pdu_session_modification_reject pdu_session_modification_command pdu_session_modification_command_reject pdu_session_release_request pdu_session_release_reject pdu_session_release_command pdu_session_release_complete five_gsm_status
has_rows kinds.PduSessionEstablishmentRequest = λ rates. refl
has_rows kinds.PduSessionEstablishmentAccept = λ first rules ambr. refl
has_rows kinds.PduSessionEstablishmentReject = λ cause. refl
has_rows kinds.PduSessionModificationRequest = refl
has_rows kinds.PduSessionModificationReject = λ cause. refl
has_rows kinds.PduSessionModificationCommand = refl
has_rows kinds.PduSessionModificationComplete = refl
has_rows kinds.PduSessionModificationCommandReject = λ cause. refl
has_rows kinds.PduSessionReleaseRequest = refl
has_rows kinds.PduSessionReleaseReject = λ cause. refl
has_rows kinds.PduSessionReleaseCommand = λ cause. refl
has_rows kinds.PduSessionReleaseComplete = refl
has_rows kinds.FiveGsmStatus = λ cause. refl

pub first_elements : (octets : List ℕ) (shape : List RowParts) (tail more : List ℕ) → EndsInElements octets shape tail → is_walked_whole shape tail ≡ true
    → count_nothing shape (elements_in shape tail) (elements_in shape more) ≡ true → sm_in (octets ++ more) ≡ sm_in octets
first_elements octets shape tail more e whole counted =
    let a = alike (tabled e.kind).table e.rest shape tail more (has_rows e.kind) e.parts whole counted in
    let frame : SmFrame = record { psi = e.psi; pti = e.pti; body = (tabled e.kind).made a.made } in
    let before : SpellsFrame octets frame = record {
      kind = e.kind;
      rest = e.rest;
      fields = a.made;
      whole = e.whole;
      body = a.spelled;
      made = refl;
    } in
    let after : SpellsFrame (octets ++ more) frame = record {
      kind = e.kind;
      rest = e.rest ++ more;
      fields = a.made;
      whole = ap (λ (os : List ℕ). os ++ more) e.whole;
      body = a.still;
      made = refl;
    } in
    spelled_found (octets ++ more) frame after ∙ sym (spelled_found octets frame before)
