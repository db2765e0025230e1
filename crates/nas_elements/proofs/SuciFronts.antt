-- Where octets stop being the front of a SUCI's.
use Rattle.std.proofs.Common.{◌≡◌, ◌≤◌, ◌<◌, ◌/◌, ◌%◌, ◌&&◌, ◌==◌, ℕ, Bool, true, false, zero, suc, nat_le, List, [], ◌∷◌, ◌++◌, length, take, Option, Some, None, is_some, if◌then◌else◌, arith, refl, sym, ◌∙◌}
use Rattle.std.proofs.lemmas.Bool.Decides.{nat_tests}
use Rattle.std.proofs.lemmas.Grind.{common_steps}
use Rattle.nas_base.specs.Digits.{all_digits, are_digits, digits_between}
use Rattle.nas_elements.specs.Layout.{digit, meets, met, one_or_two_digits, suci_layout}
use Rattle.nas_elements.specs.Packed.{◌>>=◌, filler, halves_of, plmn_in, unfilled}
use Rattle.nas_elements.specs.Reads.{IsWrongAt}
use Rattle.nas_elements.specs.Suci.{is_null_scheme, msin_in, routing_in, suci_in}
use Rattle.nas_elements.specs.declared.layout.Line.{Line}
use Rattle.nas_elements.specs.declared.layout.Line.TheVariants.{DigitAndPerhapsAnother, MoreDigits, RoutingEnd}
use Rattle.nas_elements.proofs.LayoutFronts.{front, wrong_front}
use Rattle.nas_elements.proofs.GutiFronts.{is_network, network_some}
use Rattle.nas_elements.proofs.PackedLaws.{length-halves_of, length-unfilled}

pub filled : (hs : List ℕ) (x : ℕ) → (x == filler) ≡ true → unfilled (hs ++ x ∷ []) ≡ hs
filled hs x h = grind (arith, nat_tests, common_steps, h)

pub kept : (hs : List ℕ) (x : ℕ) → (x == filler) ≡ false → unfilled (hs ++ x ∷ []) ≡ hs ++ x ∷ []
kept hs x h = grind (arith, nat_tests, common_steps, h)

pub unfilled_few : (hs : List ℕ) → length (unfilled hs) ≤ length hs
unfilled_few hs = grind (arith, nat_tests, common_steps)

pub between_some : (low high : ℕ) (ds : List ℕ) → 1 ≤ low → high ≤ 15 → is_some (digits_between low high ds) ≡ are_digits low high ds
between_some low high ds one most = grind (arith, nat_tests, common_steps)

pub routing_some : (e f : ℕ) → is_some (routing_in (e ∷ f ∷ [])) ≡ (one_or_two_digits e && meets RoutingEnd e f)
routing_some e f = between_some 1 4 (unfilled (unfilled (unfilled (halves_of (e ∷ f ∷ []))))) (omega arith) (omega arith)
    ∙ go (f / 16 == filler) (f % 16 == filler) (e / 16 == filler) refl refl refl where
      go : (p q r : Bool) → (f / 16 == filler) ≡ p → (f % 16 == filler) ≡ q → (e / 16 == filler) ≡ r
          → are_digits 1 4 (unfilled (unfilled (unfilled (halves_of (e ∷ f ∷ []))))) ≡ (one_or_two_digits e && meets RoutingEnd e f)
      go false q r hp hq hr = rw (kept (e % 16 ∷ e / 16 ∷ f % 16 ∷ []) (f / 16) hp) (grind (arith, nat_tests, hp))
      go true false r hp hq hr = rw (filled (e % 16 ∷ e / 16 ∷ f % 16 ∷ []) (f / 16) hp, kept (e % 16 ∷ e / 16 ∷ []) (f % 16) hq) (grind (arith, nat_tests, hp, hq))
      go true true false hp hq hr = rw (filled (e % 16 ∷ e / 16 ∷ f % 16 ∷ []) (f / 16) hp, filled (e % 16 ∷ e / 16 ∷ []) (f % 16) hq, kept (e % 16 ∷ []) (e / 16) hr) (grind (arith, nat_tests, hp, hq, hr))
      go true true true hp hq hr = rw (filled (e % 16 ∷ e / 16 ∷ f % 16 ∷ []) (f / 16) hp, filled (e % 16 ∷ e / 16 ∷ []) (f % 16) hq, filled (e % 16 ∷ []) (e / 16) hr) (grind (arith, nat_tests, hp, hq, hr))

-- the lines of an MSIN
abbrev pub msin_lines : List Line
msin_lines = DigitAndPerhapsAnother ∷ MoreDigits ∷ MoreDigits ∷ MoreDigits ∷ MoreDigits ∷ []

-- the digits of an MSIN: two in each octet, and in the last one or two
abbrev pub are_msin : List ℕ → Bool
are_msin [] = false
are_msin (o ∷ []) = one_or_two_digits o
are_msin (o ∷ p ∷ octets) = digit (o % 16) && (digit (o / 16) && are_msin (p ∷ octets))

pub unfilled_more : (a b c d : ℕ) (hs : List ℕ) → unfilled (a ∷ b ∷ c ∷ d ∷ hs) ≡ a ∷ b ∷ unfilled (c ∷ d ∷ hs)
unfilled_more a b c d hs = grind (arith, nat_tests, common_steps)

pub msin_digits : (octet : ℕ) (octets : List ℕ) → all_digits (unfilled (halves_of (octet ∷ octets))) ≡ are_msin (octet ∷ octets)
msin_digits o [] = go (o / 16 == filler) refl where
  go : (p : Bool) → (o / 16 == filler) ≡ p → all_digits (unfilled (halves_of (o ∷ []))) ≡ are_msin (o ∷ [])
  go true h = rw (filled (o % 16 ∷ []) (o / 16) h) (grind (arith, nat_tests, h))
  go false h = rw (kept (o % 16 ∷ []) (o / 16) h) (grind (arith, nat_tests, h))
msin_digits o (p ∷ octets) = rw (unfilled_more (o % 16) (o / 16) (p % 16) (p / 16) (halves_of octets)) (grind (arith, nat_tests, msin_digits p octets))

abbrev pub more : ℕ → List Line
more zero = []
more (suc n) = MoreDigits ∷ more n

pub front_few : (n o : ℕ) (octets : List ℕ) → length octets ≤ n → (one_or_two_digits o && front o octets (more n)) ≡ are_msin (o ∷ octets)
front_few n o [] few = grind (arith)
front_few zero o (p ∷ octets) few = grind (arith, few)
front_few (suc n) o (p ∷ octets) few = grind (arith, nat_tests, front_few n p octets (omega arith))

pub front_many : (n o : ℕ) (octets : List ℕ) → n < length octets → front o octets (more n) ≡ false
front_many n o [] many = grind (arith, many)
front_many zero o (p ∷ octets) many = refl
front_many (suc n) o (p ∷ octets) many = grind (arith, front_many n p octets (omega arith))

pub msin_some : (before o : ℕ) (octets : List ℕ) → is_some (msin_in (o ∷ octets)) ≡ front before (o ∷ octets) msin_lines
msin_some before o octets = between_some 1 10 (unfilled (halves_of (o ∷ octets))) (omega arith) (omega arith) ∙ go (nat_le (length octets) 4) refl where
  go : (few : Bool) → nat_le (length octets) 4 ≡ few → are_digits 1 10 (unfilled (halves_of (o ∷ octets))) ≡ front before (o ∷ octets) msin_lines
  go true few = grind (arith, nat_tests, few, msin_digits o octets, front_few 4 o octets, length-unfilled (halves_of (o ∷ octets)), length-halves_of (o ∷ octets), unfilled_few (halves_of (o ∷ octets)))
  go false few = grind (arith, nat_tests, few, front_many 4 o octets, length-unfilled (halves_of (o ∷ octets)), length-halves_of (o ∷ octets))

pub some_parts : {A B C D : Type 0} (scheme : Bool) (x : Option A) (y : Option B) (z : Option C) (f : A → B → C → D)
    → is_some (if scheme then x >>= (λ a. y >>= (λ b. z >>= (λ c. Some (f a b c)))) else None) ≡ (scheme && (is_some x && (is_some y && is_some z)))
some_parts false x y z f = refl
some_parts true None y z f = refl
some_parts true (Some a) None z f = refl
some_parts true (Some a) (Some b) None f = refl
some_parts true (Some a) (Some b) (Some c) f = refl

-- what a SUCI's octets are: the first of them, the scheme and the key identifier, and each of its parts
pub suci_some : (a b c d e f g h : ℕ) (octets : List ℕ) → is_some (suci_in (a ∷ b ∷ c ∷ d ∷ e ∷ f ∷ g ∷ h ∷ octets))
    ≡ (is_null_scheme (a ∷ b ∷ c ∷ d ∷ e ∷ f ∷ g ∷ h ∷ octets) && (is_some (plmn_in b c d) && (is_some (routing_in (e ∷ f ∷ [])) && is_some (msin_in octets))))
suci_some a b c d e f g h octets = some_parts (is_null_scheme (a ∷ b ∷ c ∷ d ∷ e ∷ f ∷ g ∷ h ∷ octets)) (plmn_in b c d) (routing_in (e ∷ f ∷ [])) (msin_in octets)
    (λ plmn routing msin. record { plmn = plmn; routing = routing; msin = msin })

pub begins : (a b c d e f g h : ℕ) (octets : List ℕ)
    → is_null_scheme (a ∷ b ∷ c ∷ d ∷ e ∷ f ∷ g ∷ h ∷ octets) ≡ ((a == 0x01) && ((g == 0) && (h == 0)))
begins a b c d e f g h octets = grind (arith, nat_tests)

pub in_lines : (a b c d e f g h m : Bool) → ((a && (g && h)) && ((b && (c && d)) && ((e && f) && m))) ≡ true
    → (a && (b && (c && (d && (e && (f && (g && (h && m)))))))) ≡ true
in_lines a b c d e f g h m all = grind (arith, all)

pub no_msin : (a b c : Bool) → (a && (b && (c && false))) ≡ true → ⊥
no_msin a b c all = grind (arith, all)

pub in_parts : (a b c d e f g h m : Bool) → (a && (b && (c && (d && (e && (f && (g && (h && m)))))))) ≡ true
    → ((a && (g && h)) && ((b && (c && d)) && ((e && f) && m))) ≡ true
in_parts a b c d e f g h m all = grind (arith, all)

-- the octets before an MSIN, and what the octets of an MSIN are
pub in_all : (a b c d e f g h : ℕ) (octets : List ℕ) (msin : Bool) → is_some (msin_in octets) ≡ msin → is_some (suci_in (a ∷ b ∷ c ∷ d ∷ e ∷ f ∷ g ∷ h ∷ octets))
    ≡ (((a == 0x01) && ((g == 0) && (h == 0))) && (is_network b c d && ((one_or_two_digits e && meets RoutingEnd e f) && msin)))
in_all a b c d e f g h octets msin eq = suci_some a b c d e f g h octets
    ∙ rw (begins a b c d e f g h octets, network_some b c d, routing_some e f, eq) refl

-- the lines that a SUCI has at least, and those that it may have behind them
abbrev pub suci_sure : List Line
suci_sure = take 9 suci_layout

abbrev pub suci_more : List Line
suci_more = more 4

pub sound_suci : (octets : List ℕ) → is_some (suci_in octets) ≡ true → front 0 octets (suci_sure ++ suci_more) ≡ true
sound_suci [] h = refl
sound_suci (a ∷ []) h = grind (arith, nat_tests, h)
sound_suci (a ∷ b ∷ []) h = grind (arith, nat_tests, h)
sound_suci (a ∷ b ∷ c ∷ []) h = grind (arith, nat_tests, h)
sound_suci (a ∷ b ∷ c ∷ d ∷ []) h = grind (arith, nat_tests, h)
sound_suci (a ∷ b ∷ c ∷ d ∷ e ∷ []) h = grind (arith, nat_tests, h)
sound_suci (a ∷ b ∷ c ∷ d ∷ e ∷ f ∷ []) h = grind (arith, nat_tests, h)
sound_suci (a ∷ b ∷ c ∷ d ∷ e ∷ f ∷ g ∷ []) h = grind (arith, nat_tests, h)
sound_suci (a ∷ b ∷ c ∷ d ∷ e ∷ f ∷ g ∷ h ∷ []) some = absurd (no_msin ((a == 0x01) && ((g == 0) && (h == 0))) (is_network b c d)
    (one_or_two_digits e && meets RoutingEnd e f) (sym (in_all a b c d e f g h [] false refl) ∙ some))
sound_suci (a ∷ b ∷ c ∷ d ∷ e ∷ f ∷ g ∷ h ∷ o ∷ octets) some =
    in_lines (a == 0x01) (digit (b % 16) && digit (b / 16)) (one_or_two_digits c) (digit (d % 16) && digit (d / 16)) (one_or_two_digits e) (meets RoutingEnd e f) (g == 0) (h == 0)
    (front h (o ∷ octets) msin_lines) (sym (in_all a b c d e f g h (o ∷ octets) (front h (o ∷ octets) msin_lines) (msin_some h o octets)) ∙ some)

pub complete_suci : (octets : List ℕ) → front 0 octets (suci_sure ++ suci_more) ≡ true → 9 ≤ length octets → is_some (suci_in octets) ≡ true
complete_suci [] h many = grind (arith, many)
complete_suci (a ∷ []) h many = grind (arith, many)
complete_suci (a ∷ b ∷ []) h many = grind (arith, many)
complete_suci (a ∷ b ∷ c ∷ []) h many = grind (arith, many)
complete_suci (a ∷ b ∷ c ∷ d ∷ []) h many = grind (arith, many)
complete_suci (a ∷ b ∷ c ∷ d ∷ e ∷ []) h many = grind (arith, many)
complete_suci (a ∷ b ∷ c ∷ d ∷ e ∷ f ∷ []) h many = grind (arith, many)
complete_suci (a ∷ b ∷ c ∷ d ∷ e ∷ f ∷ g ∷ []) h many = grind (arith, many)
complete_suci (a ∷ b ∷ c ∷ d ∷ e ∷ f ∷ g ∷ h ∷ []) front many = grind (arith, many)
complete_suci (a ∷ b ∷ c ∷ d ∷ e ∷ f ∷ g ∷ h ∷ o ∷ octets) lines many =
    in_all a b c d e f g h (o ∷ octets) (front h (o ∷ octets) msin_lines) (msin_some h o octets)
    ∙ in_parts (a == 0x01) (digit (b % 16) && digit (b / 16)) (one_or_two_digits c) (digit (d % 16) && digit (d / 16)) (one_or_two_digits e) (meets RoutingEnd e f) (g == 0) (h == 0)
    (front h (o ∷ octets) msin_lines) lines

pub wrong_suci : (octets : List ℕ) → IsWrongAt suci_in octets (met 0 suci_layout octets)
wrong_suci octets = wrong_front suci_in suci_sure suci_more octets refl sound_suci complete_suci
