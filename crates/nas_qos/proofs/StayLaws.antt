-- An operation changes no rule but its own.
use Rattle.std.proofs.Common.{◌≡◌, ℕ, Bool, true, false, ◌||◌, List, [], ◌∷◌, length, nat_eq, nat_lt, cond, Option, Some, None, Result, Ok, Err, sym, ◌∙◌, ap, arith, refl}
use Rattle.std.proofs.lemmas.Bool.Decides.{nat_tests}
use Rattle.nas_qos.specs.Applying.{all_applied, applied, changed, changed_rule, created, found, is_wrong, new_rule, next, replaced, with_changed, within_limits, without}
use Rattle.nas_qos.specs.Laws.{OthersStay, UnnamedStay, is_named}
use Rattle.nas_qos.specs.Operations.{Operation}
use Rattle.nas_qos.specs.Rules.{QosRule, filters_of}
use Rattle.nas_qos.specs.declared.refusals.QosFault.{QosFault}
use Rattle.nas_qos.specs.declared.refusals.QosFault.TheVariants.{Semantic, TooMany}
use Rattle.nas_qos.proofs.RuleLists.{found_id}

created_stays : (new : QosRule) (rules : List QosRule) (id : ℕ) → nat_eq new.id id ≡ false → found id (created new rules) ≡ found id rules
created_stays new [] id other = grind (arith, other)
created_stays new (rule ∷ rules) id other = go (nat_lt rule.id new.id) (created_stays new rules id other) where
  go : (b : Bool) → found id (created new rules) ≡ found id rules → found id (cond b (rule ∷ created new rules) (new ∷ rule ∷ rules)) ≡ found id (rule ∷ rules)
  go true rest = ap (λ o. cond (nat_eq rule.id id) (Some rule) o) rest
  go false rest = ap (λ (b : Bool). cond b (Some new) (found id (rule ∷ rules))) other

without_stays : (gone : ℕ) (rules : List QosRule) (id : ℕ) → nat_eq gone id ≡ false → found id (without gone rules) ≡ found id rules
without_stays gone [] id other = refl
without_stays gone (rule ∷ rules) id other = go (nat_eq rule.id gone) refl (without_stays gone rules id other) where
  go : (b : Bool) → nat_eq rule.id gone ≡ b → found id (without gone rules) ≡ found id rules → found id (cond b rules (rule ∷ without gone rules)) ≡ cond (nat_eq rule.id id) (Some rule) (found id rules)
  go true same rest =
      let differs : nat_eq rule.id id ≡ false = grind (arith, nat_tests, same, other) in ap (λ (b : Bool). cond b (Some rule) (found id rules)) (sym differs)
  go false same rest = ap (λ o. cond (nat_eq rule.id id) (Some rule) o) rest

replaced_stays : (new : QosRule) (rules : List QosRule) (id : ℕ) → nat_eq new.id id ≡ false → found id (replaced new rules) ≡ found id rules
replaced_stays new [] id other = refl
replaced_stays new (rule ∷ rules) id other = go (nat_eq rule.id new.id) refl (replaced_stays new rules id other) where
  go : (b : Bool) → nat_eq rule.id new.id ≡ b → found id (replaced new rules) ≡ found id rules → found id (cond b (new ∷ rules) (rule ∷ replaced new rules)) ≡ cond (nat_eq rule.id id) (Some rule) (found id rules)
  go true same rest =
      let differs : nat_eq rule.id id ≡ false = grind (arith, nat_tests, same, other) in
      ap (λ (b : Bool). cond b (Some new) (found id rules)) other ∙ ap (λ (b : Bool). cond b (Some rule) (found id rules)) (sym differs)
  go false same rest = ap (λ o. cond (nat_eq rule.id id) (Some rule) o) rest

changed_stays : (op : Operation) (rules : List QosRule) (id : ℕ) → nat_eq op.id id ≡ false → found id (changed op rules) ≡ found id rules
changed_stays op rules id other = go (nat_eq op.code 1) where
  on_found : (there : Option QosRule) → found op.id rules ≡ there → found id (with_changed op rules there) ≡ found id rules
  on_found None none = refl
  on_found (Some old) there = pick (nat_eq op.code 2) where
    same : nat_eq old.id id ≡ false
    same = ap (λ (n : ℕ). nat_eq n id) (found_id op.id rules old there) ∙ other

    pick : (b : Bool) → found id (cond b (without op.id rules) (replaced (changed_rule op old) rules)) ≡ found id rules
    pick true = without_stays op.id rules id other
    pick false = replaced_stays (changed_rule op old) rules id same

  go : (b : Bool) → found id (cond b (created (new_rule op) rules) (with_changed op rules (found op.id rules))) ≡ found id rules
  go true = created_stays (new_rule op) rules id other
  go false = on_found (found op.id rules) refl

pub others_stay : (op : Operation) (rules : List QosRule) → OthersStay op rules (applied op rules)
others_stay op rules = go (is_wrong op rules) where
  limited : (a b : Bool) → OthersStay op rules (cond a (Err (TooMany (length (changed op rules)))) (cond b (Err (TooMany (filters_of (changed op rules)))) (Ok (changed op rules))))
  limited true b = tt
  limited false true = tt
  limited false false = λ id other. changed_stays op rules id other

  go : (b : Bool) → OthersStay op rules (cond b (Err (Semantic op.id)) (within_limits (changed op rules)))
  go true = tt
  go false = limited (nat_lt 16 (length (changed op rules))) (nat_lt 64 (filters_of (changed op rules)))

neither : (a b : Bool) → (a || b) ≡ false → (a ≡ false) × (b ≡ false)
neither a b h = (grind (arith, h), grind (arith, h))

pub unnamed_stay : (ops : List Operation) (rules : List QosRule) → UnnamedStay ops rules (all_applied ops rules)
unnamed_stay [] rules = λ id other. refl
unnamed_stay (op ∷ ops) rules = go (applied op rules) (others_stay op rules) (unnamed_stay ops) where
  more : (new : List QosRule) → ((id : ℕ) → nat_eq op.id id ≡ false → found id new ≡ found id rules) → (last : Result (List QosRule) QosFault) → UnnamedStay ops new last → UnnamedStay (op ∷ ops) rules last
  more new one (Ok last) rest = λ id other.
      let parts = neither (nat_eq op.id id) (is_named id ops) other in rest id parts.1 ∙ one id parts.0
  more new one (Err fault) rest = tt

  go : (first : Result (List QosRule) QosFault) → OthersStay op rules first → ((new : List QosRule) → UnnamedStay ops new (all_applied ops new)) → UnnamedStay (op ∷ ops) rules (next first (all_applied ops))
  go (Ok new) one rest = more new one (all_applied ops new) (rest new)
  go (Err fault) one rest = tt
