-- What stands in the halves of an octet is read back.
use Rattle.std.proofs.Common.{◌≡◌, ◌<◌, ◌+◌, ℕ, Bool, true, false, arith, refl, ap, ◌∙◌}
use Rattle.std.specs.Prelude.{nat_le}
use Rattle.nas_elements.specs.Packed.{two_halves}
use Rattle.nas_layout.proofs.HalvesBack.{low_back}
use Rattle.nas_layout.specs.Parts.{high_half, low_half}
use Rattle.mm_messages.specs.Parts.{deregistration_code, follow_on, is_switch_off, ksi_of, registration_type_code, registration_type_of}
use Rattle.mm_messages.specs.declared.deregistration.DeregistrationRequestUeOriginating.{DeregistrationRequestUeOriginating}
use Rattle.mm_messages.specs.declared.deregistration.DeregistrationRequestUeTerminated.{DeregistrationRequestUeTerminated}
use Rattle.mm_messages.specs.declared.registration.RegistrationRequest.{RegistrationRequest}
use Rattle.mm_messages.specs.declared.registration.RegistrationType.{RegistrationType}
use Rattle.mm_messages.specs.declared.registration.RegistrationType.TheVariants.{Initial, Mobility, Periodic, Emergency}
use Rattle.mm_messages.specs.declared.service.ServiceRequest.{ServiceRequest}

low_ksi_back : (ksi high : ℕ) → ksi < 8 → ksi_of (low_half (two_halves ksi high)) ≡ ksi
low_ksi_back ksi high range = omega arith

high_ksi_back : (low ksi : ℕ) → low < 16 → ksi < 8 → ksi_of (high_half (two_halves low ksi)) ≡ ksi
high_ksi_back low ksi small range = omega arith

type_small : (registration : RegistrationType) → registration_type_code registration + follow_on < 16
type_small Initial = omega arith
type_small Mobility = omega arith
type_small Periodic = omega arith
type_small Emergency = omega arith

type_of_code : (registration : RegistrationType) → registration_type_of (registration_type_code registration + follow_on) ≡ registration
type_of_code Initial = refl
type_of_code Mobility = refl
type_of_code Periodic = refl
type_of_code Emergency = refl

type_back : (registration : RegistrationType) (ksi : ℕ) → registration_type_of (low_half (two_halves (registration_type_code registration + follow_on) ksi)) ≡ registration
type_back registration ksi =
    ap registration_type_of (low_back (registration_type_code registration + follow_on) ksi (type_small registration)) ∙ type_of_code registration

type_ksi_back : (registration : RegistrationType) (ksi : ℕ) → ksi < 8 → ksi_of (high_half (two_halves (registration_type_code registration + follow_on) ksi)) ≡ ksi
type_ksi_back registration ksi range = high_ksi_back (registration_type_code registration + follow_on) ksi (type_small registration) range

switch_off_back : (switch_off : Bool) → is_switch_off (deregistration_code switch_off) ≡ switch_off
switch_off_back true = refl
switch_off_back false = refl

deregistration_small : (switch_off : Bool) → deregistration_code switch_off < 16
deregistration_small true = omega arith
deregistration_small false = omega arith

low_switch_off_back : (switch_off : Bool) (ksi : ℕ) → is_switch_off (two_halves (deregistration_code switch_off) ksi) ≡ switch_off
low_switch_off_back switch_off ksi =
    ap (λ (half : ℕ). nat_le 8 half) (low_back (deregistration_code switch_off) ksi (deregistration_small switch_off)) ∙ switch_off_there switch_off where
      switch_off_there : (b : Bool) → nat_le 8 (deregistration_code b) ≡ b
      switch_off_there true = refl
      switch_off_there false = refl

switch_off_ksi_back : (switch_off : Bool) (ksi : ℕ) → ksi < 8 → ksi_of (high_half (two_halves (deregistration_code switch_off) ksi)) ≡ ksi
switch_off_ksi_back switch_off ksi range = high_ksi_back (deregistration_code switch_off) ksi (deregistration_small switch_off) range

-- the messages whose first octet has two halves are made of what stands in these
pub registration_back : (m : RegistrationRequest) → m.ksi < 8 → record m {
  registration = registration_type_of (low_half (two_halves (registration_type_code m.registration + follow_on) m.ksi));
  ksi = ksi_of (high_half (two_halves (registration_type_code m.registration + follow_on) m.ksi));
} ≡ m
registration_back m range = rw (type_back m.registration m.ksi, type_ksi_back m.registration m.ksi range) refl

pub deregistration_back : (m : DeregistrationRequestUeOriginating) → m.ksi < 8 → record m {
  switch_off = is_switch_off (two_halves (deregistration_code m.switch_off) m.ksi);
  ksi = ksi_of (high_half (two_halves (deregistration_code m.switch_off) m.ksi));
} ≡ m
deregistration_back m range = rw (low_switch_off_back m.switch_off m.ksi, switch_off_ksi_back m.switch_off m.ksi range) refl

pub switch_off_alone_back : (m : DeregistrationRequestUeTerminated) → record m { switch_off = is_switch_off (deregistration_code m.switch_off) } ≡ m
switch_off_alone_back m = rw (switch_off_back m.switch_off) refl

pub service_back : (m : ServiceRequest) → m.ksi < 8 → m.service_type < 16 → record m {
  ksi = ksi_of (low_half (two_halves m.ksi m.service_type));
  service_type = high_half (two_halves m.ksi m.service_type);
} ≡ m
service_back m range small =
    let high : high_half (two_halves m.ksi m.service_type) ≡ m.service_type = omega arith in
    rw (low_ksi_back m.ksi m.service_type range, high) refl
