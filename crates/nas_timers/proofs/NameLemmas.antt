-- The order of names is strict and total, and there are as many as `NAMES` says.
use Rattle.std.proofs.Common.{◌≡◌, ◌∙◌, ◌≢◌, ◌<◌, ◌+◌, ℕ, ◌==◌, true, false, cond, arith, refl, ap, sym}
use Rattle.std.proofs.lemmas.Bool.{and_from, and_parts, eq-eqb, eqb-true, false_from_ne_true}
use Rattle.std.proofs.lemmas.Bool.Decides.{nat_tests}
use Rattle.nas_timers.specs.declared.timer_id.TheConstants.{NAMES}
use Rattle.nas_timers.specs.Names.{is_before, is_name, number_of, same_name, session_of}
use Rattle.nas_timers.specs.declared.timer_id.TimerId.{TimerId}
use Rattle.nas_timers.specs.declared.timer_id.TimerId.TheVariants.{T3510, T3516, T3517, T3521, T3522, T3550, T3555, T3560, T3580, T3581, T3582, T3591, T3592}

-- names of one number and one session are equal
name_with : ℕ → ℕ → TimerId
name_with number psi =
    cond (number == 3510) T3510
    (cond (number == 3516) T3516
    (cond (number == 3517) T3517
    (cond (number == 3521) T3521
    (cond (number == 3522) T3522
    (cond (number == 3550) T3550
    (cond (number == 3555) T3555
    (cond (number == 3560) T3560
    (cond (number == 3580) (T3580 psi)
    (cond (number == 3581) (T3581 psi)
    (cond (number == 3582) (T3582 psi)
    (cond (number == 3591) (T3591 psi)
    (T3592 psi))))))))))))

named_back : (id : TimerId) → name_with (number_of id) (session_of id) ≡ id
unfolding name_with
named_back T3510 = refl
named_back T3516 = refl
named_back T3517 = refl
named_back T3521 = refl
named_back T3522 = refl
named_back T3550 = refl
named_back T3555 = refl
named_back T3560 = refl
named_back (T3580 psi) = refl
named_back (T3581 psi) = refl
named_back (T3582 psi) = refl
named_back (T3591 psi) = refl
named_back (T3592 psi) = refl

pub same_equal : (a b : TimerId) → same_name a b ≡ true → a ≡ b
same_equal a b h =
    let parts = and_parts (number_of a == number_of b) (session_of a == session_of b) h in
    sym (named_back a)
    ∙ ap (λ (n : ℕ). name_with n (session_of a)) (eqb-true (number_of a) (number_of b) parts.0)
    ∙ ap (λ (p : ℕ). name_with (number_of b) p) (eqb-true (session_of a) (session_of b) parts.1) ∙ named_back b

pub same_self : (a : TimerId) → same_name a a ≡ true
same_self a =
    and_from (number_of a == number_of a) (session_of a == session_of a) (eq-eqb (number_of a) (number_of a) refl) (eq-eqb (session_of a) (session_of a) refl)

pub same_apart : (a b : TimerId) → a ≢ b → same_name a b ≡ false
same_apart a b apart = false_from_ne_true (same_name a b) (λ e. apart (same_equal a b e))

pub same_turned : (a b : TimerId) → same_name a b ≡ false → same_name b a ≡ false
same_turned a b h = grind (arith, nat_tests)

-- a name before another isn't that one
pub before_apart : (a b : TimerId) → is_before a b ≡ true → same_name a b ≡ false
before_apart a b h = grind (arith, nat_tests)

pub before_more : (a b c : TimerId) → is_before a b ≡ true → is_before b c ≡ true → is_before a c ≡ true
before_more a b c h k = grind (arith, nat_tests)

-- of two names one is before the other
pub before_other : (a b : TimerId) → is_before a b ≡ false → same_name a b ≡ false → is_before b a ≡ true
before_other a b h k = grind (arith, nat_tests)

-- how many names stand before a name
unfoldable pub place : TimerId → ℕ
place T3510 = 0
place T3516 = 1
place T3517 = 2
place T3521 = 3
place T3522 = 4
place T3550 = 5
place T3555 = 6
place T3560 = 7
place (T3580 psi) = 7 + psi
place (T3581 psi) = 22 + psi
place (T3582 psi) = 37 + psi
place (T3591 psi) = 52 + psi
place (T3592 psi) = 67 + psi

pub place_limit : (id : TimerId) → is_name id ≡ true → place id < NAMES
unfolding place
place_limit T3510 h = omega arith
place_limit T3516 h = omega arith
place_limit T3517 h = omega arith
place_limit T3521 h = omega arith
place_limit T3522 h = omega arith
place_limit T3550 h = omega arith
place_limit T3555 h = omega arith
place_limit T3560 h = omega arith
place_limit (T3580 psi) h = grind (arith, nat_tests)
place_limit (T3581 psi) h = grind (arith, nat_tests)
place_limit (T3582 psi) h = grind (arith, nat_tests)
place_limit (T3591 psi) h = grind (arith, nat_tests)
place_limit (T3592 psi) h = grind (arith, nat_tests)

pub places_rise : (a b : TimerId) → is_name a ≡ true → is_name b ≡ true → is_before a b ≡ true → place a < place b
unfolding place
places_rise T3510 T3510 named other h = grind (arith, nat_tests)
places_rise T3510 _ named other h = grind (arith, nat_tests)
places_rise T3516 T3516 named other h = grind (arith, nat_tests)
places_rise T3516 _ named other h = grind (arith, nat_tests)
places_rise T3517 T3517 named other h = grind (arith, nat_tests)
places_rise T3517 _ named other h = grind (arith, nat_tests)
places_rise T3521 T3521 named other h = grind (arith, nat_tests)
places_rise T3521 _ named other h = grind (arith, nat_tests)
places_rise T3522 T3522 named other h = grind (arith, nat_tests)
places_rise T3522 _ named other h = grind (arith, nat_tests)
places_rise T3550 T3550 named other h = grind (arith, nat_tests)
places_rise T3550 _ named other h = grind (arith, nat_tests)
places_rise T3555 T3555 named other h = grind (arith, nat_tests)
places_rise T3555 _ named other h = grind (arith, nat_tests)
places_rise T3560 T3560 named other h = grind (arith, nat_tests)
places_rise T3560 _ named other h = grind (arith, nat_tests)
places_rise (T3580 psi) (T3580 q) named other h = grind (arith, nat_tests)
places_rise (T3580 psi) _ named other h = grind (arith, nat_tests)
places_rise (T3581 psi) (T3581 q) named other h = grind (arith, nat_tests)
places_rise (T3581 psi) _ named other h = grind (arith, nat_tests)
places_rise (T3582 psi) (T3582 q) named other h = grind (arith, nat_tests)
places_rise (T3582 psi) _ named other h = grind (arith, nat_tests)
places_rise (T3591 psi) (T3591 q) named other h = grind (arith, nat_tests)
places_rise (T3591 psi) _ named other h = grind (arith, nat_tests)
places_rise (T3592 psi) (T3592 q) named other h = grind (arith, nat_tests)
places_rise (T3592 psi) _ named other h = grind (arith, nat_tests)
