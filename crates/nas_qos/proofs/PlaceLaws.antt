-- What is done at the place of a rule.
use Rattle.std.proofs.Common.{◌≡◌, ◌<◌, ℕ, suc, Bool, true, false, List, [], ◌∷◌, length, get_or, set, nat_eq, nat_lt, cond, Some, None, sym, ◌∙◌, ap, arith, refl}
use Rattle.std.specs.List.{insert, remove}
use Rattle.nas_qos.specs.Applying.{changed, changed_rule, created, found, new_rule, replaced, with_changed, without}
use Rattle.nas_qos.specs.Operations.{Operation}
use Rattle.nas_qos.specs.Places.{lower, place}
use Rattle.nas_qos.specs.Rules.{QosRule}

pub inserted : (new : QosRule) (rules : List QosRule) → insert rules (lower new.id rules) new ≡ created new rules
inserted new [] = refl
inserted new (rule ∷ rules) = go (nat_lt rule.id new.id) (inserted new rules) where
  go : (b : Bool) → insert rules (lower new.id rules) new ≡ created new rules
      → insert (rule ∷ rules) (cond b (suc (lower new.id rules)) 0) new ≡ cond b (rule ∷ created new rules) (new ∷ rule ∷ rules)
  go true rest = ap (λ rs. rule ∷ rs) rest
  go false rest = refl

pub removed : (id : ℕ) (rules : List QosRule) → remove rules (place id rules) ≡ without id rules
removed id [] = refl
removed id (rule ∷ rules) = go (nat_eq rule.id id) (removed id rules) where
  go : (b : Bool) → remove rules (place id rules) ≡ without id rules → remove (rule ∷ rules) (cond b 0 (suc (place id rules))) ≡ cond b rules (rule ∷ without id rules)
  go true rest = refl
  go false rest = ap (λ rs. rule ∷ rs) rest

pub put_there : (new : QosRule) (rules : List QosRule) → set rules (place new.id rules) new ≡ replaced new rules
put_there new [] = refl
put_there new (rule ∷ rules) = go (nat_eq rule.id new.id) (put_there new rules) where
  go : (b : Bool) → set rules (place new.id rules) new ≡ replaced new rules → set (rule ∷ rules) (cond b 0 (suc (place new.id rules))) new ≡ cond b (new ∷ rules) (rule ∷ replaced new rules)
  go true rest = refl
  go false rest = ap (λ rs. rule ∷ rs) rest

pub found_there : (id : ℕ) (rules : List QosRule) (d : QosRule) → place id rules < length rules → found id rules ≡ Some (get_or rules (place id rules) d)
found_there id [] d h = absurd (omega arith)
found_there id (rule ∷ rules) d h = go (nat_eq rule.id id) (found_there id rules d) h where
  go : (b : Bool) → (place id rules < length rules → found id rules ≡ Some (get_or rules (place id rules) d)) → cond b 0 (suc (place id rules)) < length (rule ∷ rules)
      → cond b (Some rule) (found id rules) ≡ Some (get_or (rule ∷ rules) (cond b 0 (suc (place id rules))) d)
  go true rest h = refl
  go false rest h = rest (omega arith)

pub found_nowhere : (id : ℕ) (rules : List QosRule) → place id rules ≡ length rules → found id rules ≡ None
found_nowhere id [] h = refl
found_nowhere id (rule ∷ rules) h = go (nat_eq rule.id id) (found_nowhere id rules) h where
  go : (b : Bool) → (place id rules ≡ length rules → found id rules ≡ None) → cond b 0 (suc (place id rules)) ≡ length (rule ∷ rules) → cond b (Some rule) (found id rules) ≡ None
  go true rest h = absurd (omega arith)
  go false rest h = rest (omega arith)

-- what an operation does to the rules, done at the place of its rule

pub created_at : (op : Operation) (rules : List QosRule) (at : ℕ) (rule : QosRule) → rule ≡ new_rule op → at ≡ lower op.id rules → insert rules at rule ≡ created (new_rule op) rules
created_at op rules at rule new there =
    ap (λ (r : QosRule). insert rules at r) new ∙ ap (λ (n : ℕ). insert rules n (new_rule op)) there ∙ inserted (new_rule op) rules

otherwise : (op : Operation) (rules : List QosRule) → nat_eq op.code 1 ≡ false → changed op rules ≡ with_changed op rules (found op.id rules)
otherwise op rules other = ap (λ (b : Bool). cond b (created (new_rule op) rules) (with_changed op rules (found op.id rules))) other

pub changed_nowhere : (op : Operation) (rules : List QosRule) → nat_eq op.code 1 ≡ false → place op.id rules ≡ length rules → rules ≡ changed op rules
changed_nowhere op rules other none = sym (otherwise op rules other ∙ ap (with_changed op rules) (found_nowhere op.id rules none))

pub deleted_at : (op : Operation) (rules : List QosRule) (at : ℕ) (d : QosRule) → nat_eq op.code 1 ≡ false → nat_eq op.code 2 ≡ true → at ≡ place op.id rules → at < length rules
    → remove rules at ≡ changed op rules
deleted_at op rules at d other deletes there within =
    let old : QosRule = get_or rules (place op.id rules) d in
    let deleted : with_changed op rules (Some old) ≡ without op.id rules = ap (λ (b : Bool). cond b (without op.id rules) (replaced (changed_rule op old) rules)) deletes in
    ap (remove rules) there ∙ removed op.id rules
    ∙ sym (otherwise op rules other ∙ ap (with_changed op rules) (found_there op.id rules d (omega (arith, there, within))) ∙ deleted)

pub found_at : (id : ℕ) (rules : List QosRule) (at : ℕ) (old : QosRule) → at ≡ place id rules → at < length rules → old ≡ get_or rules at old → found id rules ≡ Some old
found_at id rules at old there within is =
    found_there id rules old (omega (arith, there, within)) ∙ ap (λ (n : ℕ). Some (get_or rules n old)) (sym there) ∙ ap (λ (r : QosRule). Some r) (sym is)

pub changed_at : (op : Operation) (rules : List QosRule) (at : ℕ) (old new : QosRule) → nat_eq op.code 1 ≡ false → nat_eq op.code 2 ≡ false → at ≡ place op.id rules → old.id ≡ op.id
    → found op.id rules ≡ Some old → new ≡ changed_rule op old → set rules at new ≡ changed op rules
changed_at op rules at old new other stays there same old_is new_is =
    let kept : with_changed op rules (Some old) ≡ replaced (changed_rule op old) rules = ap (λ (b : Bool). cond b (without op.id rules) (replaced (changed_rule op old) rules)) stays in
    let place_is : at ≡ place old.id rules = there ∙ ap (λ (id : ℕ). place id rules) (sym same) in
    ap (λ (r : QosRule). set rules at r) new_is ∙ ap (λ (n : ℕ). set rules n (changed_rule op old)) place_is ∙ put_there (changed_rule op old) rules
    ∙ sym (otherwise op rules other ∙ ap (with_changed op rules) old_is ∙ kept)
