-- The identities of sessions.
use Rattle.std.proofs.Common.{◌≡◌, ◌≤◌, arith, refl, subst, ℕ, Bool, true, false, Some, None}
use Rattle.std.proofs.lemmas.Bool.Decides.{nat_tests}
use Rattle.std.specs.Prelude.{if◌then◌else◌}
use Rattle.nas_base.specs.Values.{is_psi, psi_from}

named_by : (test : Bool) (n psi : ℕ) → (if test then Some n else None) ≡ Some psi → (test ≡ true) × (n ≡ psi)
named_by true n psi e = (refl, cc)
named_by false n psi e = cc

pub psi_named : (n psi : ℕ) → psi_from n ≡ Some psi → is_psi psi ≡ true
psi_named n psi e =
    let named : (is_psi n ≡ true) × (n ≡ psi) = named_by (is_psi n) n psi e in
    subst (λ (x : ℕ). is_psi x ≡ true) named.1 named.0

pub psi_least : (psi : ℕ) → is_psi psi ≡ true → 1 ≤ psi
psi_least psi is = grind (arith, nat_tests)

pub psi_most : (psi : ℕ) → is_psi psi ≡ true → psi ≤ 15
psi_most psi is = grind (arith, nat_tests)

pub psi_within : (psi : ℕ) → 1 ≤ psi → psi ≤ 15 → is_psi psi ≡ true
psi_within psi least most = grind (arith, nat_tests)
