-- What the handset sends fits one message.
use Rattle.std.proofs.Common.{◌≡◌, ℕ, ◌≤◌, true, Bool, List, length, Option, Some, None, arith}
use Rattle.std.proofs.lemmas.Grind.{common_steps}
use Rattle.std.proofs.lemmas.Bool.Decides.{nat_tests}
use Rattle.nas_base.specs.Digits.{are_digits}
use Rattle.nas_elements.proofs.Lengths.{length-suci_octets}
use Rattle.nas_elements.specs.Identity.{identity_octets}
use Rattle.nas_elements.specs.Suci.{SuciParts, suci_octets}
use Rattle.nas_elements.specs.declared.identity.Identity.{Identity}
use Rattle.mm_messages.specs.Messages.{spelling}
use Rattle.mm_messages.specs.Registration.{registration_request}
use Rattle.mm_messages.specs.declared.message.Mm.TheVariants as mm
use Rattle.mm_messages.specs.declared.registration.RegistrationType.{RegistrationType}

pub suci_fits : (s : SuciParts) → are_digits 9 10 s.msin ≡ true → length (suci_octets s) ≤ 18
suci_fits s msin =
    let ten : length s.msin ≤ 10 = grind (arith, nat_tests) in
    omega (arith, length-suci_octets s)

pub request_fits : (registration : RegistrationType) (ksi : ℕ) (identity : Identity) (capability : List ℕ) (sessions : Option (List Bool)) →
    length (identity_octets identity) ≤ 18 → length capability ≤ 8 →
    length (spelling (mm.RegistrationRequest (record { registration = registration; ksi = ksi; identity = identity; capability = Some capability; status = sessions }))) ≤ 4096
unfolding registration_request
request_fits registration ksi identity capability None named short = grind (arith, common_steps)
request_fits registration ksi identity capability (Some held) named short = grind (arith, common_steps)
