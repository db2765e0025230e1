-- The octets of a component that was read.
use Rattle.std.proofs.Common.{◌≡◌, ◌<◌, ◌≤◌, ◌+◌, ◌-◌, ◌==◌, ℕ, Bool, true, false, List, [], ◌∷◌, length, nat_eq, nat_le, cond, Some, None, ap, arith, refl}
use Rattle.std.specs.List.{list_all}
use Rattle.std.specs.Result.{result_ok}
use Rattle.std.proofs.lemmas.Bool.{and_from, eq-eqb, le-leb}
use Rattle.std.proofs.lemmas.Bool.Decides.{nat_tests}
use Rattle.std.proofs.lemmas.Grind.{common_steps}
use Rattle.nas_qos.specs.Parts.{first_part, is_part, is_parts, part_octets, part_of, part_size, parts_in, parts_octets, value_size}
use Rattle.nas_qos.specs.declared.part.Part.{Part}
use Rattle.nas_qos.proofs.TurnsReading.{Turned, all_read, wrong_read}

-- a component that was read is written as its type and so many octets as its value has
part_sized : (kind : ℕ) (octets : List ℕ) (part : Part) → value_size kind ≤ length octets → part_of kind octets ≡ Some part
    → length (part_octets part) ≡ 1 + value_size kind
part_sized kind octets part fits read =
    go (kind == 0x01) (kind == 0x10) (kind == 0x11) (kind == 0x30) (kind == 0x40) (kind == 0x50) (kind == 0x41) (kind == 0x51) refl refl refl refl refl refl refl refl where
      go : (a b c d e f g h : Bool) → (kind == 0x01) ≡ a → (kind == 0x10) ≡ b → (kind == 0x11) ≡ c → (kind == 0x30) ≡ d → (kind == 0x40) ≡ e
          → (kind == 0x50) ≡ f → (kind == 0x41) ≡ g → (kind == 0x51) ≡ h → length (part_octets part) ≡ 1 + value_size kind
      go a b c d e f g h is_a is_b is_c is_d is_e is_f is_g is_h = grind (arith, nat_tests, common_steps, read, fits)

pub first_sized : (octets : List ℕ) (part : Part) → first_part octets ≡ Some part
    → (length (part_octets part) ≡ part_size octets) × (part_size octets ≤ length octets)
first_sized [] part read = cc
first_sized (kind ∷ octets) part read = go (nat_le (value_size kind) (length octets)) refl read where
  go : (b : Bool) → nat_le (value_size kind) (length octets) ≡ b → cond b (part_of kind octets) None ≡ Some part
      → (length (part_octets part) ≡ part_size (kind ∷ octets)) × (part_size (kind ∷ octets) ≤ length (kind ∷ octets))
  go true fits h =
      let there : value_size kind ≤ length octets = grind (arith, nat_tests) in (part_sized kind octets part there h, omega (arith, there))
  go false fits h = cc

-- all components were read
pub parts_read : (octets : List ℕ) (parts : List Part) (rest : List ℕ) → Turned (λ at os. first_part os) part_size part_octets octets parts rest → length rest ≡ 0
    → list_all is_part parts ≡ true → length octets ≤ 255
    → (parts_in octets ≡ Some parts) × (is_parts parts ≡ true) × (nat_eq (length (parts_octets parts)) (length octets) ≡ true)
parts_read octets parts rest so none good fits =
    let all = all_read (λ at os. first_part os) part_size part_octets octets parts rest so none in
    let few : length (parts_octets parts) ≤ 255 = omega (arith, all.1, fits) in (
      ap result_ok all.0,
      and_from (list_all is_part parts) (nat_le (length (parts_octets parts)) 255) good (le-leb (length (parts_octets parts)) 255 few),
      eq-eqb (length (parts_octets parts)) (length octets) all.1,
    )

-- a component that is wrong
pub part_wrong : (octets : List ℕ) (parts : List Part) (rest : List ℕ) → Turned (λ at os. first_part os) part_size part_octets octets parts rest → 0 < length rest
    → first_part rest ≡ None → parts_in octets ≡ None
part_wrong octets parts rest so some wrong = ap result_ok (wrong_read (λ at os. first_part os) part_size part_octets octets parts rest so some wrong)
