-- What the parts and elements of 5GMM messages read as, where that is no element of its own (TS 24.501 clause 9.11.3).
use Rattle.std.specs.Prelude.{ℕ, ◌%◌, Bool, List, [], ◌∷◌, nat_le, ◌==◌, Option, Some, None, if◌then◌else◌}
use Rattle.nas_layout.specs.Coding.{Coding, value}
use Rattle.nas_layout.specs.Parts.{one_octet}
use Rattle.mm_messages.specs.declared.registration.RegistrationType.{RegistrationType}
use Rattle.mm_messages.specs.declared.registration.RegistrationType.TheVariants.{Initial, Mobility, Periodic, Emergency}

-- 5GMM's extended protocol discriminator, header type 0 of a plain message, the message type (clauses 9.2, 9.3 and 9.7)
abbrev pub head : ℕ → List ℕ
head kind = 0x7e ∷ 0x00 ∷ kind ∷ []

-- ngKSI in a half: bits 1 to 3 (clause 9.11.3.32)
abbrev pub ksi_of : ℕ → ℕ
ksi_of half = half % 8

-- 5GS registration type in a half: bits 1 to 3 (clause 9.11.3.7). Other values than these four are read as initial registration.
abbrev pub registration_type_code : RegistrationType → ℕ
registration_type_code Initial = 1
registration_type_code Mobility = 2
registration_type_code Periodic = 3
registration_type_code Emergency = 4

abbrev pub registration_type_of : ℕ → RegistrationType
registration_type_of half =
    if half % 8 == 2 then Mobility else (if half % 8 == 3 then Periodic else (if half % 8 == 4 then Emergency else Initial))

-- bit 4 of the same half: a request is to follow; it is always written, and passed over
abbrev pub follow_on : ℕ
follow_on = 8

-- de-registration type in a half: bit 4 tells a switch off; bits 1 and 2, the access, are always written as 3GPP access (1), bit 3
-- as 0, and all three are passed over (clause 9.11.3.20)
abbrev pub is_switch_off : ℕ → Bool
is_switch_off half = nat_le 8 (half % 16)

abbrev pub deregistration_code : Bool → ℕ
deregistration_code switch_off = if switch_off then 9 else 1

-- 5GS registration result: exactly one octet (clause 9.11.3.6)
abbrev pub result_in : List ℕ → Option ℕ
result_in (octet ∷ []) = Some octet
result_in octets = None

abbrev pub registration_result : Coding ℕ
registration_result = value result_in one_octet
