-- Lists of rules behind one rule more, one less, and one in place of another.
use Rattle.std.proofs.Common.{◌≡◌, ◌<◌, ◌≤◌, ◌+◌, ℕ, Bool, true, false, List, [], ◌∷◌, length, nat_eq, nat_lt, cond, Some, sym, ◌∙◌, ap, arith, refl}
use Rattle.std.specs.List.{list_all, list_any}
use Rattle.std.proofs.lemmas.Bool.Decides.{nat_tests}
use Rattle.nas_qos.specs.Applying.{created, found, replaced, without}
use Rattle.nas_qos.specs.Rules.{QosRule, defaults_due, defaults_of, filters_of, ids_rise}

-- what holds of each rule, and of the new one, holds of each rule behind

pub all_created : (P : QosRule → Bool) (new : QosRule) (rules : List QosRule) → P new ≡ true → list_all P rules ≡ true → list_all P (created new rules) ≡ true
all_created P new [] here h = grind (arith, here)
all_created P new (rule ∷ rules) here h =
    let rest = all_created P new rules here (grind (arith, h)) in grind (arith, h, rest, here)

pub all_without : (P : QosRule → Bool) (id : ℕ) (rules : List QosRule) → list_all P rules ≡ true → list_all P (without id rules) ≡ true
all_without P id [] h = refl
all_without P id (rule ∷ rules) h =
    let rest = all_without P id rules (grind (arith, h)) in grind (arith, h, rest)

pub all_replaced : (P : QosRule → Bool) (new : QosRule) (rules : List QosRule) → P new ≡ true → list_all P rules ≡ true → list_all P (replaced new rules) ≡ true
all_replaced P new [] here h = refl
all_replaced P new (rule ∷ rules) here h =
    let rest = all_replaced P new rules here (grind (arith, h)) in grind (arith, h, rest, here)

-- and so for what holds of none

pub none_created : (P : QosRule → Bool) (new : QosRule) (rules : List QosRule) → P new ≡ false → list_any P rules ≡ false → list_any P (created new rules) ≡ false
none_created P new [] here h = grind (arith, here)
none_created P new (rule ∷ rules) here h =
    let rest = none_created P new rules here (grind (arith, h)) in grind (arith, h, rest, here)

pub none_without : (P : QosRule → Bool) (id : ℕ) (rules : List QosRule) → list_any P rules ≡ false → list_any P (without id rules) ≡ false
none_without P id [] h = refl
none_without P id (rule ∷ rules) h =
    let rest = none_without P id rules (grind (arith, h)) in grind (arith, h, rest)

pub none_replaced : (P : QosRule → Bool) (new : QosRule) (rules : List QosRule) → P new ≡ false → list_any P rules ≡ false → list_any P (replaced new rules) ≡ false
none_replaced P new [] here h = refl
none_replaced P new (rule ∷ rules) here h =
    let rest = none_replaced P new rules here (grind (arith, h)) in grind (arith, h, rest, here)

-- the rule that is found has the identifier, and what holds of each holds of it

pub found_id : (id : ℕ) (rules : List QosRule) (old : QosRule) → found id rules ≡ Some old → old.id ≡ id
found_id id [] old h = cc
found_id id (rule ∷ rules) old h = go (nat_eq rule.id id) refl (found_id id rules old) h where
  go : (b : Bool) → nat_eq rule.id id ≡ b → (found id rules ≡ Some old → old.id ≡ id) → cond b (Some rule) (found id rules) ≡ Some old → old.id ≡ id
  go true same more h = grind (arith, nat_tests, same, h)
  go false same more h = more h

pub found_holds : (P : QosRule → Bool) (id : ℕ) (rules : List QosRule) (old : QosRule) → found id rules ≡ Some old → list_all P rules ≡ true → P old ≡ true
found_holds P id [] old h all = cc
found_holds P id (rule ∷ rules) old h all = go (nat_eq rule.id id) (λ there. found_holds P id rules old there (grind (arith, all))) h where
  go : (b : Bool) → (found id rules ≡ Some old → P old ≡ true) → cond b (Some rule) (found id rules) ≡ Some old → P old ≡ true
  go true more h = grind (arith, h, all)
  go false more h = more h

pub found_fails : (P : QosRule → Bool) (id : ℕ) (rules : List QosRule) (old : QosRule) → found id rules ≡ Some old → list_any P rules ≡ false → P old ≡ false
found_fails P id [] old h all = cc
found_fails P id (rule ∷ rules) old h all = go (nat_eq rule.id id) (λ there. found_fails P id rules old there (grind (arith, all))) h where
  go : (b : Bool) → (found id rules ≡ Some old → P old ≡ false) → cond b (Some rule) (found id rules) ≡ Some old → P old ≡ false
  go true more h = grind (arith, h, all)
  go false more h = more h

-- the order of identifiers

above : (low high : ℕ) (rules : List QosRule) → low < high → list_all (λ r. nat_lt high r.id) rules ≡ true → list_all (λ r. nat_lt low r.id) rules ≡ true
above low high [] less h = refl
above low high (rule ∷ rules) less h =
    let rest = above low high rules less (grind (arith, h)) in grind (arith, nat_tests, h, rest, less)

above_replaced : (low : ℕ) (new : QosRule) (rules : List QosRule) → list_all (λ r. nat_lt low r.id) rules ≡ true → list_all (λ r. nat_lt low r.id) (replaced new rules) ≡ true
above_replaced low new [] h = refl
above_replaced low new (rule ∷ rules) h = go (nat_eq rule.id new.id) refl (above_replaced low new rules (grind (arith, h))) where
  go : (b : Bool) → nat_eq rule.id new.id ≡ b → list_all (λ r. nat_lt low r.id) (replaced new rules) ≡ true → list_all (λ r. nat_lt low r.id) (cond b (new ∷ rules) (rule ∷ replaced new rules)) ≡ true
  go true same rest = grind (arith, nat_tests, same, h)
  go false same rest = grind (arith, h, rest)

pub rise_created : (new : QosRule) (rules : List QosRule) → ids_rise rules ≡ true → list_any (λ r. nat_eq r.id new.id) rules ≡ false → ids_rise (created new rules) ≡ true
rise_created new [] rise other = refl
rise_created new (rule ∷ rules) rise other = go (nat_lt rule.id new.id) refl (rise_created new rules (grind (arith, rise)) (grind (arith, other))) where
  go : (b : Bool) → nat_lt rule.id new.id ≡ b → ids_rise (created new rules) ≡ true → ids_rise (cond b (rule ∷ created new rules) (new ∷ rule ∷ rules)) ≡ true
  go true less rest =
      let higher = all_created (λ r. nat_lt rule.id r.id) new rules less (grind (arith, rise)) in
      grind (arith, higher, rest)
  go false less rest =
      let below : new.id < rule.id = grind (arith, nat_tests, less, other) in
      let higher = above new.id rule.id rules below (grind (arith, rise)) in grind (arith, nat_tests, higher, rise, below)

pub rise_without : (id : ℕ) (rules : List QosRule) → ids_rise rules ≡ true → ids_rise (without id rules) ≡ true
rise_without id [] rise = refl
rise_without id (rule ∷ rules) rise =
    let higher = all_without (λ r. nat_lt rule.id r.id) id rules (grind (arith, rise)) in
    let rest = rise_without id rules (grind (arith, rise)) in grind (arith, higher, rest, rise)

pub rise_replaced : (new : QosRule) (rules : List QosRule) → ids_rise rules ≡ true → ids_rise (replaced new rules) ≡ true
rise_replaced new [] rise = refl
rise_replaced new (rule ∷ rules) rise = go (nat_eq rule.id new.id) refl (rise_replaced new rules (grind (arith, rise))) where
  go : (b : Bool) → nat_eq rule.id new.id ≡ b → ids_rise (replaced new rules) ≡ true → ids_rise (cond b (new ∷ rules) (rule ∷ replaced new rules)) ≡ true
  go true same rest =
      let equal : rule.id ≡ new.id = grind (arith, nat_tests, same) in
      let higher : list_all (λ r. nat_lt new.id r.id) rules ≡ true = ap (λ n. list_all (λ r. nat_lt n r.id) rules) (sym equal) ∙ grind (arith, rise) in
      grind (arith, higher, rise)
  go false same rest =
      let higher = above_replaced rule.id new rules (grind (arith, rise)) in
      grind (arith, higher, rest)

-- default rules

abbrev pub one_if : Bool → ℕ
one_if b = cond b 1 0

pub defaults_created : (new : QosRule) (rules : List QosRule) → defaults_of (created new rules) ≡ one_if new.default + defaults_of rules
defaults_created new [] = refl
defaults_created new (rule ∷ rules) = go (nat_lt rule.id new.id) (defaults_created new rules) where
  go : (b : Bool) → defaults_of (created new rules) ≡ one_if new.default + defaults_of rules → defaults_of (cond b (rule ∷ created new rules) (new ∷ rule ∷ rules)) ≡ one_if new.default + (one_if rule.default + defaults_of rules)
  go true rest = omega (arith, rest)
  go false rest = refl

pub defaults_without : (id : ℕ) (rules : List QosRule) (old : QosRule) → found id rules ≡ Some old → one_if old.default + defaults_of (without id rules) ≡ defaults_of rules
defaults_without id [] old h = cc
defaults_without id (rule ∷ rules) old h = go (nat_eq rule.id id) (defaults_without id rules old) h where
  go : (b : Bool) → (found id rules ≡ Some old → one_if old.default + defaults_of (without id rules) ≡ defaults_of rules) → cond b (Some rule) (found id rules) ≡ Some old
      → one_if old.default + defaults_of (cond b rules (rule ∷ without id rules)) ≡ one_if rule.default + defaults_of rules
  go true more h = grind (arith, h)
  go false more h = let rest = more h in omega (arith, rest)

pub defaults_replaced : (new : QosRule) (rules : List QosRule) (old : QosRule) → found new.id rules ≡ Some old → new.default ≡ old.default → defaults_of (replaced new rules) ≡ defaults_of rules
defaults_replaced new [] old h same = cc
defaults_replaced new (rule ∷ rules) old h same = go (nat_eq rule.id new.id) (λ there. defaults_replaced new rules old there same) h where
  go : (b : Bool) → (found new.id rules ≡ Some old → defaults_of (replaced new rules) ≡ defaults_of rules) → cond b (Some rule) (found new.id rules) ≡ Some old
      → defaults_of (cond b (new ∷ rules) (rule ∷ replaced new rules)) ≡ one_if rule.default + defaults_of rules
  go true more h =
      let bit : new.default ≡ rule.default = grind (arith, h, same) in ap (λ b. one_if b + defaults_of rules) bit
  go false more h = ap (λ n. one_if rule.default + n) (more h)

pub due_created : (new : QosRule) (rules : List QosRule) → defaults_due (created new rules) ≡ 1
due_created new [] = refl
due_created new (rule ∷ rules) = go (nat_lt rule.id new.id) where
  go : (b : Bool) → defaults_due (cond b (rule ∷ created new rules) (new ∷ rule ∷ rules)) ≡ 1
  go true = refl
  go false = refl

pub due_replaced : (new : QosRule) (rules : List QosRule) → defaults_due (replaced new rules) ≡ defaults_due rules
due_replaced new [] = refl
due_replaced new (rule ∷ rules) = go (nat_eq rule.id new.id) where
  go : (b : Bool) → defaults_due (cond b (new ∷ rules) (rule ∷ replaced new rules)) ≡ 1
  go true = refl
  go false = refl

pub due_one : (rules : List QosRule) → defaults_of rules ≡ 1 → defaults_due rules ≡ 1
due_one [] h = h
due_one (rule ∷ rules) h = refl

pub due_some : (rules : List QosRule) (id : ℕ) (old : QosRule) → found id rules ≡ Some old → defaults_due rules ≡ 1
due_some [] id old h = cc
due_some (rule ∷ rules) id old h = refl

pub no_default : (rules : List QosRule) → list_any (λ r. r.default) rules ≡ false → defaults_of rules ≡ 0
no_default [] h = refl
no_default (rule ∷ rules) h =
    let rest = no_default rules (grind (arith, h)) in
    let none : rule.default ≡ false = grind (arith, h) in
    ap (λ b. one_if b + defaults_of rules) none ∙ omega (arith, rest)

-- numbers of rules and filters

pub length_created : (new : QosRule) (rules : List QosRule) → length (created new rules) ≡ 1 + length rules
length_created new [] = refl
length_created new (rule ∷ rules) = go (nat_lt rule.id new.id) (length_created new rules) where
  go : (b : Bool) → length (created new rules) ≡ 1 + length rules → length (cond b (rule ∷ created new rules) (new ∷ rule ∷ rules)) ≡ 1 + length (rule ∷ rules)
  go true rest = omega (arith, rest)
  go false rest = omega arith

pub length_without : (id : ℕ) (rules : List QosRule) → length (without id rules) ≤ length rules
length_without id [] = omega arith
length_without id (rule ∷ rules) = go (nat_eq rule.id id) (length_without id rules) where
  go : (b : Bool) → length (without id rules) ≤ length rules → length (cond b rules (rule ∷ without id rules)) ≤ length (rule ∷ rules)
  go true rest = omega arith
  go false rest = omega (arith, rest)

pub length_replaced : (new : QosRule) (rules : List QosRule) → length (replaced new rules) ≡ length rules
length_replaced new [] = refl
length_replaced new (rule ∷ rules) = go (nat_eq rule.id new.id) (length_replaced new rules) where
  go : (b : Bool) → length (replaced new rules) ≡ length rules → length (cond b (new ∷ rules) (rule ∷ replaced new rules)) ≡ length (rule ∷ rules)
  go true rest = omega arith
  go false rest = omega (arith, rest)

pub filters_created : (new : QosRule) (rules : List QosRule) → filters_of (created new rules) ≡ length new.filters + filters_of rules
filters_created new [] = refl
filters_created new (rule ∷ rules) = go (nat_lt rule.id new.id) (filters_created new rules) where
  go : (b : Bool) → filters_of (created new rules) ≡ length new.filters + filters_of rules → filters_of (cond b (rule ∷ created new rules) (new ∷ rule ∷ rules)) ≡ length new.filters + (length rule.filters + filters_of rules)
  go true rest = omega (arith, rest)
  go false rest = refl

pub filters_without : (id : ℕ) (rules : List QosRule) → filters_of (without id rules) ≤ filters_of rules
filters_without id [] = omega arith
filters_without id (rule ∷ rules) = go (nat_eq rule.id id) (filters_without id rules) where
  go : (b : Bool) → filters_of (without id rules) ≤ filters_of rules → filters_of (cond b rules (rule ∷ without id rules)) ≤ length rule.filters + filters_of rules
  go true rest = omega arith
  go false rest = omega (arith, rest)

pub filters_replaced : (new : QosRule) (rules : List QosRule) (old : QosRule) → found new.id rules ≡ Some old
    → filters_of (replaced new rules) + length old.filters ≡ filters_of rules + length new.filters
filters_replaced new [] old h = cc
filters_replaced new (rule ∷ rules) old h = go (nat_eq rule.id new.id) (filters_replaced new rules old) h where
  go : (b : Bool) → (found new.id rules ≡ Some old → filters_of (replaced new rules) + length old.filters ≡ filters_of rules + length new.filters) → cond b (Some rule) (found new.id rules) ≡ Some old
      → filters_of (cond b (new ∷ rules) (rule ∷ replaced new rules)) + length old.filters ≡ length rule.filters + filters_of rules + length new.filters
  go true more h =
      let same : rule ≡ old = cc in
      let size : length rule.filters ≡ length old.filters = ap (λ (r : QosRule). length r.filters) same in omega (arith, size)
  go false more h = let rest = more h in omega (arith, rest)
