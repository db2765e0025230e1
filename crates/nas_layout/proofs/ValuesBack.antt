-- Values of parts and elements are read back.
use Rattle.std.proofs.Common.{◌≡◌, ◌≤◌, ◌<◌, ◌+◌, ◌%◌, ◌^◌, ℕ, List, length, Option, Some, None, arith, refl, ap}
use Rattle.std.specs.Prelude.{IfSome}
use Rattle.std.proofs.lemmas.Bool.Decides.{nat_tests}
use Rattle.nas_base.specs.declared.shape.Form.TheVariants.{Half, Fixed, Tlv, Tlve}
use Rattle.nas_elements.specs.declared.identity.Identity.{Identity}
use Rattle.nas_layout.specs.Coding.{Coding}
use Rattle.nas_layout.specs.Codings.{container, half, identity, octet, octets}
use Rattle.nas_layout.specs.Parts.{container_in}
use Rattle.nas_layout.specs.ReadBack.{ElementBack, PartBack}
use Rattle.nas_layout.specs.declared.frame.Frame.TheVariants.{Lv, Lve}

-- a value that is there
abbrev pub IsBack : {P : Type 0} → Coding P → P → Type 0
IsBack coding x = coding.reading (coding.octets x) ≡ Some x

pub tlv_back : {P : Type 0} (iei : ℕ) (coding : Coding P) (x : Option P) → IfSome x (IsBack coding) → ElementBack iei Tlv coding x
tlv_back iei coding None back = record { fits = tt; back = refl }
tlv_back iei coding (Some x) back = record { fits = tt; back = back }

pub tlve_back : {P : Type 0} (iei most : ℕ) (coding : Coding P) (x : Option P) → most < 2 ^ 16 → IfSome x (λ y. length (coding.octets y) ≤ most) → IfSome x (IsBack coding)
    → ElementBack iei Tlve coding x
tlve_back iei most coding None few size back = record { fits = tt; back = refl }
tlve_back iei most coding (Some x) few size back = record { fits = omega arith; back = back }

pub octet_back : (iei : ℕ) (x : Option ℕ) → ElementBack iei (Fixed 2) octet x
octet_back iei None = record { fits = tt; back = refl }
octet_back iei (Some x) = record { fits = refl; back = refl }

pub rand_back : (iei : ℕ) (x : Option (List ℕ)) → IfSome x (λ o. length o ≡ 16) → ElementBack iei (Fixed 17) (octets 16) x
rand_back iei None size = record { fits = tt; back = refl }
rand_back iei (Some x) size = record { fits = omega arith; back = grind (arith, nat_tests) }

pub half_back : (iei : ℕ) (x : Option ℕ) → iei % 16 ≡ 0 → IfSome x (λ h. h < 16) → ElementBack iei Half half x
half_back iei None high small = record { fits = tt; back = refl }
half_back iei (Some x) high small =
    let low : (iei + x % 16) % 16 ≡ x = omega arith in
    record { fits = small; back = ap (λ (h : ℕ). Some h) low }

pub container_there : (x : List ℕ) → length x ≤ 4100 → container_in x ≡ Some x
container_there x size = grind (arith, nat_tests)

pub container_back : (iei : ℕ) (x : Option (List ℕ)) → IfSome x (λ o. length o ≤ 4100) → ElementBack iei Tlve container x
container_back iei None size = record { fits = tt; back = refl }
container_back iei (Some x) size = record { fits = omega arith; back = container_there x size }

pub container_part_back : (x : List ℕ) → length x ≤ 4100 → PartBack Lve container x
container_part_back x size = record { fits = omega arith; back = container_there x size }

pub identity_part_back : (x : Identity) → length (identity.octets x) ≤ 4100 → identity.reading (identity.octets x) ≡ Some x → PartBack Lve identity x
identity_part_back x size back = record { fits = omega arith; back = back }

pub lv_part_back : {P : Type 0} (most : ℕ) (coding : Coding P) (x : P) → most ≤ 255 → length (coding.octets x) ≤ most → IsBack coding x → PartBack Lv coding x
lv_part_back most coding x few size back = record { fits = omega arith; back = back }
