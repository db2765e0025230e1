-- No precedence occurs twice behind an operation either.
use Rattle.std.proofs.Common.{◌≡◌, ℕ, Bool, true, false, not, ◌&&◌, ◌||◌, List, [], ◌∷◌, nat_eq, nat_lt, cond, Some, sym, ◌∙◌, ap, arith, refl}
use Rattle.std.specs.List.{list_all, list_any}
use Rattle.std.proofs.lemmas.Bool.Decides.{nat_tests}
use Rattle.nas_qos.specs.Applying.{created, found, replaced, without}
use Rattle.nas_qos.specs.Rules.{QosRule, has_precedence, ids_rise, precedences_differ}
use Rattle.nas_qos.proofs.RuleLists.{found_fails, none_created, none_replaced, none_without}

-- a rule of another identifier has this precedence
abbrev pub others_have : ℕ → ℕ → List QosRule → Bool
others_have id precedence rules = list_any (λ r. not (nat_eq r.id id) && nat_eq r.precedence precedence) rules

apart : (a b : ℕ) → nat_eq a b ≡ false → nat_eq b a ≡ false
apart a b h = grind (arith, nat_tests, h)

pub none_has : (id precedence : ℕ) (rules : List QosRule) → list_any (λ r. nat_eq r.id id) rules ≡ false → others_have id precedence rules ≡ false → has_precedence precedence rules ≡ false
none_has id precedence [] other h = refl
none_has id precedence (rule ∷ rules) other h =
    let rest = none_has id precedence rules (grind (arith, other)) (grind (arith, h)) in grind (arith, other, h, rest)

none_higher : (id precedence : ℕ) (rules : List QosRule) → list_all (λ r. nat_lt id r.id) rules ≡ true → others_have id precedence rules ≡ false → has_precedence precedence rules ≡ false
none_higher id precedence [] higher h = refl
none_higher id precedence (rule ∷ rules) higher h =
    let rest = none_higher id precedence rules (grind (arith, higher)) (grind (arith, h)) in
    let other : nat_eq rule.id id ≡ false = grind (arith, nat_tests, higher) in grind (arith, other, h, rest)

others_less : (id precedence : ℕ) (rules : List QosRule) → has_precedence precedence rules ≡ false → others_have id precedence rules ≡ false
others_less id precedence [] h = refl
others_less id precedence (rule ∷ rules) h =
    let rest = others_less id precedence rules (grind (arith, h)) in grind (arith, h, rest)

-- no other rule has the precedence of one that is there
pub others_differ : (id : ℕ) (rules : List QosRule) (old : QosRule) → found id rules ≡ Some old → precedences_differ rules ≡ true → others_have id old.precedence rules ≡ false
others_differ id [] old h differ = cc
others_differ id (rule ∷ rules) old h differ = go (nat_eq rule.id id) refl (λ there. others_differ id rules old there (grind (arith, differ))) h where
  alone : has_precedence rule.precedence rules ≡ false
  alone = grind (arith, differ)

  go : (b : Bool) → nat_eq rule.id id ≡ b → (found id rules ≡ Some old → others_have id old.precedence rules ≡ false) → cond b (Some rule) (found id rules) ≡ Some old
      → ((not (nat_eq rule.id id) && nat_eq rule.precedence old.precedence) || others_have id old.precedence rules) ≡ false
  go true same more h =
      let equal : rule ≡ old = cc in
      let rest : others_have id old.precedence rules ≡ false = ap (λ (r : QosRule). others_have id r.precedence rules) (sym equal) ∙ others_less id rule.precedence rules alone in
      grind (arith, same, rest)
  go false same more h =
      let rest = more h in
      let not_it : nat_eq old.precedence rule.precedence ≡ false = found_fails (λ r. nat_eq r.precedence rule.precedence) id rules old h alone in
      let differs = apart old.precedence rule.precedence not_it in grind (arith, differs, rest)

pub differ_created : (new : QosRule) (rules : List QosRule) → precedences_differ rules ≡ true → has_precedence new.precedence rules ≡ false → precedences_differ (created new rules) ≡ true
differ_created new [] differ none = refl
differ_created new (rule ∷ rules) differ none = go (nat_lt rule.id new.id) (differ_created new rules (grind (arith, differ)) (grind (arith, none))) where
  go : (b : Bool) → precedences_differ (created new rules) ≡ true → precedences_differ (cond b (rule ∷ created new rules) (new ∷ rule ∷ rules)) ≡ true
  go true rest =
      let differs = apart rule.precedence new.precedence (grind (arith, none)) in
      let alone = none_created (λ r. nat_eq r.precedence rule.precedence) new rules differs (grind (arith, differ)) in grind (arith, alone, rest)
  go false rest = grind (arith, differ, none)

pub differ_without : (id : ℕ) (rules : List QosRule) → precedences_differ rules ≡ true → precedences_differ (without id rules) ≡ true
differ_without id [] differ = refl
differ_without id (rule ∷ rules) differ =
    let rest = differ_without id rules (grind (arith, differ)) in
    let alone = none_without (λ r. nat_eq r.precedence rule.precedence) id rules (grind (arith, differ)) in grind (arith, alone, rest, differ)

pub differ_replaced : (new : QosRule) (rules : List QosRule) → precedences_differ rules ≡ true → ids_rise rules ≡ true
    → others_have new.id new.precedence rules ≡ false → precedences_differ (replaced new rules) ≡ true
differ_replaced new [] differ rise none = refl
differ_replaced new (rule ∷ rules) differ rise none = go (nat_eq rule.id new.id) refl (differ_replaced new rules (grind (arith, differ)) (grind (arith, rise)) (grind (arith, none))) where
  go : (b : Bool) → nat_eq rule.id new.id ≡ b → precedences_differ (replaced new rules) ≡ true → precedences_differ (cond b (new ∷ rules) (rule ∷ replaced new rules)) ≡ true
  go true same rest =
      let equal : rule.id ≡ new.id = grind (arith, nat_tests, same) in
      let higher : list_all (λ r. nat_lt new.id r.id) rules ≡ true = ap (λ n. list_all (λ r. nat_lt n r.id) rules) (sym equal) ∙ grind (arith, rise) in
      let alone = none_higher new.id new.precedence rules higher (grind (arith, none)) in grind (arith, alone, differ)
  go false same rest =
      let differs = apart rule.precedence new.precedence (grind (arith, none, same)) in
      let alone = none_replaced (λ r. nat_eq r.precedence rule.precedence) new rules differs (grind (arith, differ)) in grind (arith, alone, rest)
