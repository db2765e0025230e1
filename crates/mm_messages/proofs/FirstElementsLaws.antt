-- Further elements of identifiers that stand there already, or that a message doesn't know, change no message.
use Rattle.std.proofs.Common.{◌≡◌, ◌∙◌, ℕ, true, List, ◌++◌, refl, ap, sym}
use Rattle.nas_base.specs.Walking.{RowParts, elements_in}
use Rattle.nas_base.specs.declared.mm_kind.MmKind.{MmKind}
use Rattle.nas_base.specs.declared.mm_kind.MmKind.TheVariants as kinds
use Rattle.nas_layout.specs.FirstElements.{count_nothing, is_walked_whole}
use Rattle.nas_layout.proofs.FirstElementsLaws.{HasRows, alike}
use Rattle.mm_messages.proofs.SpelledLaws.{spelled_found}
use Rattle.mm_messages.specs.Authentication.{authentication_failure, authentication_request, authentication_response}
use Rattle.mm_messages.specs.ConfigurationUpdate.{configuration_update_command}
use Rattle.mm_messages.specs.Deregistration.{deregistration_request_ue_originating, deregistration_request_ue_terminated}
use Rattle.mm_messages.specs.FirstElements.{EndsInElements}
use Rattle.mm_messages.specs.Identification.{identity_request, identity_response}
use Rattle.mm_messages.specs.Messages.{SpellsMessage, mm_in, tabled}
use Rattle.mm_messages.specs.Registration.{registration_accept, registration_reject, registration_request}
use Rattle.mm_messages.specs.SecurityMode.{security_mode_command, security_mode_complete, security_mode_reject}
use Rattle.mm_messages.specs.Service.{service_accept, service_reject, service_request}
use Rattle.mm_messages.specs.StatusMessage.{five_gmm_status}
use Rattle.mm_messages.specs.Transport.{dl_nas_transport, ul_nas_transport}

has_rows : (kind : MmKind) → HasRows (tabled kind).table
unfolding authentication_failure authentication_request authentication_response configuration_update_command deregistration_request_ue_originating deregistration_request_ue_terminated identity_request identity_response registration_accept registration_reject registration_request security_mode_command security_mode_complete security_mode_reject service_accept service_reject service_request five_gmm_status dl_nas_transport ul_nas_transport
has_rows kinds.RegistrationRequest = λ first identity. refl
has_rows kinds.RegistrationAccept = λ result. refl
has_rows kinds.RegistrationComplete = refl
has_rows kinds.RegistrationReject = λ cause. refl
has_rows kinds.DeregistrationRequestUeOriginating = λ first identity. refl
has_rows kinds.DeregistrationAcceptUeOriginating = refl
has_rows kinds.DeregistrationRequestUeTerminated = λ first. refl
has_rows kinds.DeregistrationAcceptUeTerminated = refl
has_rows kinds.ServiceRequest = λ first identity. refl
has_rows kinds.ServiceReject = λ cause. refl
has_rows kinds.ServiceAccept = refl
has_rows kinds.ConfigurationUpdateCommand = refl
has_rows kinds.ConfigurationUpdateComplete = refl
has_rows kinds.AuthenticationRequest = λ first abba. refl
has_rows kinds.AuthenticationResponse = refl
has_rows kinds.AuthenticationReject = refl
has_rows kinds.AuthenticationFailure = λ cause. refl
has_rows kinds.IdentityRequest = λ first. refl
has_rows kinds.IdentityResponse = λ identity. refl
has_rows kinds.SecurityModeCommand = λ algs second capability. refl
has_rows kinds.SecurityModeComplete = refl
has_rows kinds.SecurityModeReject = λ cause. refl
has_rows kinds.FiveGmmStatus = λ cause. refl
has_rows kinds.UlNasTransport = λ first container. refl
has_rows kinds.DlNasTransport = λ first container. refl

pub first_elements : (octets : List ℕ) (shape : List RowParts) (tail more : List ℕ) → EndsInElements octets shape tail → is_walked_whole shape tail ≡ true
    → count_nothing shape (elements_in shape tail) (elements_in shape more) ≡ true → mm_in (octets ++ more) ≡ mm_in octets
first_elements octets shape tail more e whole counted =
    let a = alike (tabled e.kind).table e.rest shape tail more (has_rows e.kind) e.parts whole counted in
    let made = (tabled e.kind).made a.made in
    let before : SpellsMessage octets made = record {
      second = e.second;
      kind = e.kind;
      rest = e.rest;
      fields = a.made;
      whole = e.whole;
      plain = e.plain;
      body = a.spelled;
      made = refl;
    } in
    let after : SpellsMessage (octets ++ more) made = record {
      second = e.second;
      kind = e.kind;
      rest = e.rest ++ more;
      fields = a.made;
      whole = ap (λ (os : List ℕ). os ++ more) e.whole;
      plain = e.plain;
      body = a.still;
      made = refl;
    } in
    spelled_found (octets ++ more) made after ∙ sym (spelled_found octets made before)
