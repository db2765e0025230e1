-- What is written is read back: numbers in octets, digits in octets, and the identities.
use Rattle.std.proofs.Common.{◌≡◌, ◌≤◌, ◌<◌, ◌/◌, ◌%◌, ◌^◌, ◌==◌, ℕ, true, false, List, [], ◌∷◌, ◌++◌, slice_index, Some, arith, refl, ap, ◌∙◌}
use Rattle.std.proofs.lemmas.Bool.Decides.{nat_tests}
use Rattle.byteorder.specs.Endian.{big_bytes}
use Rattle.byteorder.specs.Numbers.{big_number-reads_back}
use Rattle.nas_base.specs.Digits.{all_digits, are_digits, digits_between}
use Rattle.nas_base.specs.Plmn.{PlmnIdentity, is_plmn}
use Rattle.nas_elements.specs.Guti.{guti_in, guti_octets, stmsi_in, stmsi_octets}
use Rattle.nas_elements.specs.declared.guti.Guti.{Guti}
use Rattle.nas_elements.specs.declared.guti.Stmsi.{Stmsi}
use Rattle.nas_elements.specs.Packed.{filler, halves_of, packed, plmn_in, plmn_octets, third_digit, two_halves, unfilled}
use Rattle.nas_elements.specs.Suci.{is_suci, msin_in, routing_in, routing_octets, suci_in, suci_octets}
use Rattle.nas_elements.proofs.SuciFronts.{begins, filled, kept, unfilled_more}

pub low : (a b : ℕ) → a < 16 → two_halves a b % 16 ≡ a
low a b h = omega arith

pub high : (a b : ℕ) → a < 16 → two_halves a b / 16 ≡ b
high a b h = omega arith

pub digits_back : (ds : List ℕ) → all_digits ds ≡ true → unfilled (halves_of (packed ds)) ≡ ds
digits_back [] h = refl
digits_back (a ∷ []) h = rw (low a filler (grind (arith, nat_tests, h)), high a filler (grind (arith, nat_tests, h))) (filled (a ∷ []) filler refl)
digits_back (a ∷ b ∷ []) h = rw (low a b (grind (arith, nat_tests, h)), high a b (grind (arith, nat_tests, h))) (kept (a ∷ []) b (grind (arith, nat_tests, h)))
digits_back (a ∷ b ∷ c ∷ []) h =
    rw (low a b (grind (arith, nat_tests, h)), high a b (grind (arith, nat_tests, h)))
    (unfilled_more a b (two_halves c filler % 16) (two_halves c filler / 16) [] ∙ ap (λ l. a ∷ b ∷ l) (digits_back (c ∷ []) (grind (arith, nat_tests, h))))
digits_back (a ∷ b ∷ c ∷ d ∷ ds) h =
    rw (low a b (grind (arith, nat_tests, h)), high a b (grind (arith, nat_tests, h)))
    (unfilled_more a b (two_halves c d % 16) (two_halves c d / 16) (halves_of (packed ds))
    ∙ ap (λ l. a ∷ b ∷ l) (digits_back (c ∷ d ∷ ds) (grind (arith, nat_tests, h))))

pub between : (lowest highest : ℕ) (ds : List ℕ) → are_digits lowest highest ds ≡ true → 1 ≤ lowest → highest ≤ 15 → digits_between lowest highest ds ≡ Some ds
between lowest highest ds h least most = grind (arith, nat_tests, h, least, most)

pub msin_back : (ds : List ℕ) → are_digits 1 10 ds ≡ true → msin_in (packed ds) ≡ Some ds
msin_back ds h = ap (digits_between 1 10) (digits_back ds (grind (arith, h))) ∙ between 1 10 ds h (omega arith) (omega arith)

pub routing_digits : (ds : List ℕ) → are_digits 1 4 ds ≡ true → unfilled (unfilled (unfilled (halves_of (routing_octets ds)))) ≡ ds
routing_digits [] h = grind (arith, h)
routing_digits (a ∷ []) h =
    rw (low a filler (grind (arith, nat_tests, h)), high a filler (grind (arith, nat_tests, h)))
    refl
routing_digits (a ∷ b ∷ []) h =
    rw (low a b (grind (arith, nat_tests, h)), high a b (grind (arith, nat_tests, h)))
    (kept (a ∷ []) b (grind (arith, nat_tests, h)))
routing_digits (a ∷ b ∷ c ∷ []) h =
    rw (
      low a b (grind (arith, nat_tests, h)),
      high a b (grind (arith, nat_tests, h)),
      low c filler (grind (arith, nat_tests, h)),
      high c filler (grind (arith, nat_tests, h)),
      kept (a ∷ b ∷ []) c (grind (arith, nat_tests, h)),
    )
    (kept (a ∷ b ∷ []) c (grind (arith, nat_tests, h)))
routing_digits (a ∷ b ∷ c ∷ d ∷ []) h =
    let k = kept (a ∷ b ∷ c ∷ []) d (grind (arith, nat_tests, h)) in
    rw (low a b (grind (arith, nat_tests, h)), high a b (grind (arith, nat_tests, h)), low c d (grind (arith, nat_tests, h)), high c d (grind (arith, nat_tests, h)))
    (ap (λ l. unfilled (unfilled l)) k ∙ ap unfilled k ∙ k)
routing_digits (a ∷ b ∷ c ∷ d ∷ e ∷ ds) h = grind (arith, nat_tests, h)

pub routing_back : (ds : List ℕ) → are_digits 1 4 ds ≡ true → routing_in (routing_octets ds) ≡ Some ds
routing_back ds h = ap (digits_between 1 4) (routing_digits ds h) ∙ between 1 4 ds h (omega arith) (omega arith)

pub network_back : (mcc mnc : List ℕ) → is_plmn mcc mnc ≡ true
    → plmn_in (two_halves (slice_index mcc 0) (slice_index mcc 1)) (two_halves (slice_index mcc 2) (third_digit mnc)) (two_halves (slice_index mnc 0) (slice_index mnc 1))
    ≡ Some (record { mcc = mcc; mnc = mnc })
network_back (a ∷ b ∷ c ∷ []) (d ∷ e ∷ []) h =
    rw (
      low a b (grind (arith, nat_tests, h)),
      high a b (grind (arith, nat_tests, h)),
      low c filler (grind (arith, nat_tests, h)),
      high c filler (grind (arith, nat_tests, h)),
      low d e (grind (arith, nat_tests, h)),
      high d e (grind (arith, nat_tests, h)),
      h,
    ) refl
network_back (a ∷ b ∷ c ∷ []) (d ∷ e ∷ f ∷ []) h =
    let no_filler : (f == filler) ≡ false = grind (arith, nat_tests, h) in
    rw (
      low a b (grind (arith, nat_tests, h)),
      high a b (grind (arith, nat_tests, h)),
      low c f (grind (arith, nat_tests, h)),
      high c f (grind (arith, nat_tests, h)),
      low d e (grind (arith, nat_tests, h)),
      high d e (grind (arith, nat_tests, h)),
      no_filler,
      h,
    ) refl
network_back mcc mnc h = grind (arith, nat_tests, h)

-- a SUCI, from the two octets of its routing indicator
pub suci_of_parts : (plmn : PlmnIdentity) (routing msin : List ℕ) (e f : ℕ) → is_plmn plmn.mcc plmn.mnc ≡ true → routing_in (e ∷ f ∷ []) ≡ Some routing
    → msin_in (packed msin) ≡ Some msin
    → suci_in ((0x01 ∷ plmn_octets plmn) ++ (e ∷ f ∷ 0x00 ∷ 0x00 ∷ packed msin)) ≡ Some (record { plmn = plmn; routing = routing; msin = msin })
suci_of_parts plmn routing msin e f network r m =
    rw (
      begins 0x01 (two_halves (slice_index plmn.mcc 0) (slice_index plmn.mcc 1)) (two_halves (slice_index plmn.mcc 2) (third_digit plmn.mnc))
          (two_halves (slice_index plmn.mnc 0) (slice_index plmn.mnc 1)) e f 0 0 (packed msin),
      network_back plmn.mcc plmn.mnc network,
      r,
      m,
    ) refl

pub suci_back : (plmn : PlmnIdentity) (routing msin : List ℕ) → is_plmn plmn.mcc plmn.mnc ≡ true → is_suci routing msin ≡ true
    → suci_in (suci_octets (record { plmn = plmn; routing = routing; msin = msin })) ≡ Some (record { plmn = plmn; routing = routing; msin = msin })
suci_back plmn [] msin network h = grind (arith, nat_tests, h)
suci_back plmn (a ∷ []) msin network h = suci_of_parts plmn (a ∷ []) msin (two_halves a filler) (0xff) network
    (routing_back (a ∷ []) (grind (arith, h))) (msin_back msin (grind (arith, h)))
suci_back plmn (a ∷ b ∷ []) msin network h = suci_of_parts plmn (a ∷ b ∷ []) msin (two_halves a b) (0xff) network
    (routing_back (a ∷ b ∷ []) (grind (arith, h))) (msin_back msin (grind (arith, h)))
suci_back plmn (a ∷ b ∷ c ∷ []) msin network h = suci_of_parts plmn (a ∷ b ∷ c ∷ []) msin (two_halves a b) (two_halves c filler) network
    (routing_back (a ∷ b ∷ c ∷ []) (grind (arith, h))) (msin_back msin (grind (arith, h)))
suci_back plmn (a ∷ b ∷ c ∷ d ∷ []) msin network h = suci_of_parts plmn (a ∷ b ∷ c ∷ d ∷ []) msin (two_halves a b) (two_halves c d) network
    (routing_back (a ∷ b ∷ c ∷ d ∷ []) (grind (arith, h))) (msin_back msin (grind (arith, h)))
suci_back plmn (a ∷ b ∷ c ∷ d ∷ e ∷ rest) msin network h = grind (arith, nat_tests, h)

pub guti_back : (g : Guti) → is_plmn g.plmn.mcc g.plmn.mnc ≡ true → g.set_pointer < 256 ^ 2 → g.tmsi < 256 ^ 4 → guti_in (guti_octets g) ≡ Some g
guti_back g network set tmsi =
    rw (network_back g.plmn.mcc g.plmn.mnc network, big_number-reads_back 2 g.set_pointer (big_bytes 4 g.tmsi) set, big_number-reads_back 4 g.tmsi [] tmsi) refl

pub stmsi_back : (s : Stmsi) → s.set_pointer < 256 ^ 2 → s.tmsi < 256 ^ 4 → stmsi_in (stmsi_octets s) ≡ Some s
stmsi_back s set tmsi = rw (big_number-reads_back 2 s.set_pointer (big_bytes 4 s.tmsi) set, big_number-reads_back 4 s.tmsi [] tmsi) refl
