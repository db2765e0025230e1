-- What stands in the half of an octet is read back.
use Rattle.std.proofs.Common.{◌≡◌, ◌<◌, ◌+◌, ◌%◌, ℕ, Option, Some, None, arith, refl, ap}
use Rattle.std.specs.Prelude.{IfSome}
use Rattle.nas_base.specs.declared.shape.Form.TheVariants.{Half}
use Rattle.nas_elements.specs.Packed.{two_halves}
use Rattle.nas_layout.specs.Parts.{high_half, low_half}
use Rattle.nas_layout.specs.ReadBack.{ElementBack}
use Rattle.sm_messages.specs.Parts.{session_type, session_type_of}
use Rattle.sm_messages.specs.declared.establishment.PduSessionEstablishmentAccept.{PduSessionEstablishmentAccept}

-- a type behind its identifier in the high half
pub type_element_back : (iei : ℕ) (x : Option ℕ) → iei % 16 ≡ 0 → IfSome x (λ t. t < 8) → ElementBack iei Half session_type x
type_element_back iei None high below = record { fits = tt; back = refl }
type_element_back iei (Some t) high below =
    let low : (iei + t % 16) % 16 % 8 ≡ t = omega arith in
    record { fits = omega arith; back = ap (λ (h : ℕ). Some h) low }

-- the message whose first octet has two halves is made of what stands in these
pub accept_back : (m : PduSessionEstablishmentAccept) → m.session_type < 8 → m.ssc_mode < 16 → record m {
  session_type = session_type_of (low_half (two_halves m.session_type m.ssc_mode));
  ssc_mode = high_half (two_halves m.session_type m.ssc_mode);
} ≡ m
accept_back m below small =
    let low : session_type_of (low_half (two_halves m.session_type m.ssc_mode)) ≡ m.session_type = omega arith in
    let high : high_half (two_halves m.session_type m.ssc_mode) ≡ m.ssc_mode = omega arith in
    rw (low, high) refl
