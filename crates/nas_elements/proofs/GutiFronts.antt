-- Where octets stop being the front of a 5G-GUTI's, or of a 5G-S-TMSI's.
use Rattle.std.proofs.Common.{◌≡◌, ◌≤◌, ◌/◌, ◌%◌, ◌&&◌, ◌||◌, ◌==◌, ℕ, Bool, true, false, zero, suc, nat_le, List, [], ◌∷◌, ◌++◌, length, Option, Some, None, is_some, if◌then◌else◌, arith, refl, ◌∙◌}
use Rattle.std.proofs.lemmas.Bool.Decides.{nat_tests}
use Rattle.nas_base.specs.Plmn.{is_plmn}
use Rattle.nas_elements.specs.Guti.{guti_in, stmsi_in}
use Rattle.nas_elements.specs.Layout.{digit, guti_layout, met, one_or_two_digits, stmsi_layout}
use Rattle.nas_elements.specs.Packed.{◌>>=◌, filler, plmn_in}
use Rattle.nas_elements.specs.Reads.{IsWrongAt}
use Rattle.nas_elements.specs.declared.layout.Line.{Line}
use Rattle.nas_elements.specs.declared.layout.Line.TheVariants.{Any}
use Rattle.nas_elements.proofs.LayoutFronts.{front, wrong_front}

-- three octets hold a network where they meet these lines
abbrev pub is_network : ℕ → ℕ → ℕ → Bool
is_network a b c = digit (a % 16) && digit (a / 16) && (one_or_two_digits b && (digit (c % 16) && digit (c / 16)))

pub some_if : {A : Type 0} (b : Bool) (x : A) → is_some (if b then Some x else None) ≡ b
some_if true x = refl
some_if false x = refl

-- with the third digit of the network's code, and without
pub three_digits : (a b c d e f : Bool) → ((a && (b && (c && true))) && (d && (e && (f && true)))) ≡ (a && b && ((c && (f || false)) && (d && e)))
three_digits false b c d e f = refl
three_digits true false c d e f = refl
three_digits true true false d e f = refl
three_digits true true true false e true = refl
three_digits true true true false e false = refl
three_digits true true true true false true = refl
three_digits true true true true false false = refl
three_digits true true true true true true = refl
three_digits true true true true true false = refl

pub two_digits : (a b c d e f : Bool) → ((a && (b && (c && true))) && (d && (e && true))) ≡ (a && b && ((c && (f || true)) && (d && e)))
two_digits false b c d e f = refl
two_digits true false c d e f = refl
two_digits true true false d e f = refl
two_digits true true true false e true = refl
two_digits true true true false e false = refl
two_digits true true true true false true = refl
two_digits true true true true false false = refl
two_digits true true true true true true = refl
two_digits true true true true true false = refl

abbrev country : ℕ → ℕ → List ℕ
country a b = a % 16 ∷ a / 16 ∷ b % 16 ∷ []

abbrev network : ℕ → ℕ → Bool → List ℕ
network b c fills = if fills then c % 16 ∷ c / 16 ∷ [] else c % 16 ∷ c / 16 ∷ b / 16 ∷ []

pub network_some : (a b c : ℕ) → is_some (plmn_in a b c) ≡ is_network a b c
network_some a b c = some_if (is_plmn (country a b) (network b c (b / 16 == filler))) (record { mcc = country a b; mnc = network b c (b / 16 == filler) })
    ∙ go (b / 16 == filler) where
      go : (fills : Bool) → is_plmn (country a b) (network b c fills)
          ≡ (digit (a % 16) && digit (a / 16) && ((digit (b % 16) && (digit (b / 16) || fills)) && (digit (c % 16) && digit (c / 16))))
      go true = two_digits (digit (a % 16)) (digit (a / 16)) (digit (b % 16)) (digit (c % 16)) (digit (c / 16)) (digit (b / 16))
      go false = three_digits (digit (a % 16)) (digit (a / 16)) (digit (b % 16)) (digit (c % 16)) (digit (c / 16)) (digit (b / 16))

abbrev pub anything : ℕ → List Line
anything zero = []
anything (suc n) = Any ∷ anything n

pub front_anything : (n before : ℕ) (octets : List ℕ) → front before octets (anything n) ≡ nat_le (length octets) n
front_anything n before [] = grind (arith, nat_tests)
front_anything zero before (o ∷ octets) = grind (arith, nat_tests)
front_anything (suc n) before (o ∷ octets) = grind (arith, nat_tests, front_anything n o octets)

pub sound_stmsi : (octets : List ℕ) → is_some (stmsi_in octets) ≡ true → front 0 octets (stmsi_layout ++ []) ≡ true
sound_stmsi [] h = refl
sound_stmsi (a ∷ octets) h = grind (arith, nat_tests, h, front_anything 6 a octets)

pub complete_stmsi : (octets : List ℕ) → front 0 octets (stmsi_layout ++ []) ≡ true → 7 ≤ length octets → is_some (stmsi_in octets) ≡ true
complete_stmsi [] h many = grind (arith, many)
complete_stmsi (a ∷ octets) h many = grind (arith, nat_tests, h, many, front_anything 6 a octets)

pub wrong_stmsi : (octets : List ℕ) → IsWrongAt stmsi_in octets (met 0 stmsi_layout octets)
wrong_stmsi octets = wrong_front stmsi_in stmsi_layout [] octets refl sound_stmsi complete_stmsi

pub some-bind : {A B : Type 0} (m : Option A) (f : A → B) → is_some (m >>= (λ x. Some (f x))) ≡ is_some m
some-bind None f = refl
some-bind (Some x) f = refl

pub sound_guti : (octets : List ℕ) → is_some (guti_in octets) ≡ true → front 0 octets (guti_layout ++ []) ≡ true
sound_guti [] h = refl
sound_guti (a ∷ []) h = grind (arith, nat_tests, h)
sound_guti (a ∷ b ∷ []) h = grind (arith, nat_tests, h)
sound_guti (a ∷ b ∷ c ∷ []) h = grind (arith, nat_tests, h)
sound_guti (a ∷ b ∷ c ∷ d ∷ octets) h = grind (arith, nat_tests, h, front_anything 7 d octets, network_some b c d)

pub complete_guti : (octets : List ℕ) → front 0 octets (guti_layout ++ []) ≡ true → 11 ≤ length octets → is_some (guti_in octets) ≡ true
complete_guti [] h many = grind (arith, many)
complete_guti (a ∷ []) h many = grind (arith, many)
complete_guti (a ∷ b ∷ []) h many = grind (arith, many)
complete_guti (a ∷ b ∷ c ∷ []) h many = grind (arith, many)
complete_guti (a ∷ b ∷ c ∷ d ∷ octets) h many = grind (arith, nat_tests, h, many, front_anything 7 d octets, network_some b c d)

pub wrong_guti : (octets : List ℕ) → IsWrongAt guti_in octets (met 0 guti_layout octets)
wrong_guti octets = wrong_front guti_in guti_layout [] octets refl sound_guti complete_guti
