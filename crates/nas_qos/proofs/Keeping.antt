-- An operation that goes with the rules of a session leaves rules of a session, where they are not too many.
use Rattle.std.proofs.Common.{◌≡◌, ◌≤◌, ◌+◌, ℕ, Bool, true, false, not, ◌&&◌, ◌||◌, List, [], ◌∷◌, length, nat_eq, nat_lt, cond, Option, Some, None, Result, Ok, Err, OnOk, sym, ◌∙◌, ap, arith, refl}
use Rattle.std.specs.List.{list_any}
use Rattle.std.proofs.lemmas.Bool.Decides.{nat_tests}
use Rattle.nas_qos.specs.Applying.{adds_there, changed, changed_rule, created, creates_there, deletes_default, deletes_missing, first_not_default, found, is_taken, is_wrong, leaves_none, new_rule, precedence_in, replaced, second_default, sets_default, takes_precedence, with_changed, without, within_limits, wrong_change, wrong_create}
use Rattle.nas_qos.specs.Operations.{Operation, is_operation, is_tail}
use Rattle.nas_qos.specs.Rules.{IsRules, QosRule, defaults_due, defaults_of, filters_of, has_precedence, is_rule}
use Rattle.nas_qos.specs.Reads.{KeepsLimits}
use Rattle.nas_qos.specs.declared.refusals.ApplyRefusal.{ApplyRefusal}
use Rattle.nas_qos.specs.declared.refusals.QosFault.TheVariants.{TooMany}
use Rattle.nas_qos.proofs.Precedences.{differ_created, differ_replaced, differ_without, none_has, others_differ, others_have}
use Rattle.nas_qos.proofs.RuleFacts.{changed_few, changed_is_rule, few_filters, new_is_rule, op_facts}
use Rattle.nas_qos.proofs.RuleLists.{all_created, all_replaced, all_without, defaults_created, defaults_replaced, defaults_without, due_created, due_one, due_replaced, due_some, filters_created, filters_replaced, filters_without, found_holds, found_id, length_created, length_replaced, length_without, no_default, one_if, rise_created, rise_replaced, rise_without}

-- what holds of rules behind an operation, whatever their number
pub record Kept (rules new : List QosRule) : Type 0 where
  pub rules_few : length new ≤ length rules + 1
  pub filters_few : filters_of new ≤ filters_of rules + 15
  pub kept : length new ≤ 16 → filters_of new ≤ 64 → IsRules new

four : (a b c d : Bool) → (a || b || c || d) ≡ false → (a ≡ false) × (b ≡ false) × (c ≡ false) × (d ≡ false)
four a b c d h = (grind (arith, h), grind (arith, h), grind (arith, h), grind (arith, h))

six : (a b c d e f : Bool) → (a || b || c || d || e || f) ≡ false → (a ≡ false) × (b ≡ false) × (c ≡ false) × (d ≡ false) × (e ≡ false) × (f ≡ false)
six a b c d e f h = (grind (arith, h), grind (arith, h), grind (arith, h), grind (arith, h), grind (arith, h), grind (arith, h))

-- what holds of an operation on a rule that is there, and doesn't break a rule
pub record MayChange (op : Operation) (rules : List QosRule) (old : QosRule) : Type 0 where
  pub deletes : deletes_default op old ≡ false
  pub sets : sets_default op old ≡ false
  pub joins : adds_there op old.filters ≡ false
  pub misses : deletes_missing op old.filters ≡ false
  pub leaves : leaves_none op old.filters ≡ false
  pub takes : takes_precedence op rules ≡ false

pub may_change : (op : Operation) (rules : List QosRule) (old : QosRule) → wrong_change op rules (Some old) ≡ false → MayChange op rules old
may_change op rules old h =
    let parts = six (deletes_default op old) (sets_default op old) (adds_there op old.filters) (deletes_missing op old.filters) (leaves_none op old.filters) (takes_precedence op rules) h in
    record { deletes = parts.0; sets = parts.1; joins = parts.2; misses = parts.3; leaves = parts.4; takes = parts.5 }

pub may_at : (op : Operation) (rules : List QosRule) (old : QosRule) → is_wrong op rules ≡ false → nat_eq op.code 1 ≡ false → found op.id rules ≡ Some old → MayChange op rules old
may_at op rules old right other there =
    may_change op rules old
    (ap (wrong_change op rules) (sym there)
    ∙ (ap (λ (b : Bool). cond b (wrong_create op rules) (wrong_change op rules (found op.id rules))) (sym other) ∙ right))

-- create

-- the first rule is default, and no other one is
new_default : (bit any : Bool) (rules : List QosRule) → list_any (λ r. r.default) rules ≡ any → (bit && any) ≡ false → (nat_eq (length rules) 0 && not bit) ≡ false
    → defaults_of rules ≡ defaults_due rules → one_if bit + defaults_of rules ≡ 1
new_default true any [] is_any second first due = refl
new_default false any [] is_any second first due = absurd (grind (arith, first))
new_default true true (rule ∷ rules) is_any second first due = absurd (grind (arith, second))
new_default true false (rule ∷ rules) is_any second first due =
    let none = no_default (rule ∷ rules) is_any in absurd (omega (arith, none, due))
new_default false any (rule ∷ rules) is_any second first due = omega (arith, due)

not_taken : (op : Operation) (rules : List QosRule) → (tail : Option (ℕ × ℕ)) → nat_eq op.code 1 ≡ true → is_tail op.code tail ≡ true
    → creates_there op rules ≡ false → is_taken op.id tail rules ≡ false → has_precedence (precedence_in tail 0) rules ≡ false
not_taken op rules None creates has_tail there taken = absurd (grind (arith, creates, has_tail))
not_taken op rules (Some tail) creates has_tail there taken = none_has op.id tail.0 rules there taken

created_kept : (op : Operation) (rules : List QosRule) → IsRules rules → is_operation op ≡ true → nat_eq op.code 1 ≡ true → wrong_create op rules ≡ false
    → Kept rules (created (new_rule op) rules)
created_kept op rules are whole creates right =
    let facts = op_facts op whole in
    let parts = four (creates_there op rules) (second_default op rules) (first_not_default op rules) (is_taken op.id op.tail rules) right in
    let few = few_filters op.code (length op.filters) facts.number_is in
    let one = new_default op.default (list_any (λ r. r.default) rules) rules refl parts.1 parts.2 are.one_default in
    record {
      rules_few = omega (arith, length_created (new_rule op) rules);
      filters_few = omega (arith, filters_created (new_rule op) rules, few);
      kept = λ rules_fit filters_fit. record {
        rules_fit = rules_fit;
        filters_fit = filters_fit;
        ordered = rise_created (new_rule op) rules are.ordered parts.0;
        one_default = defaults_created (new_rule op) rules ∙ one ∙ sym (due_created (new_rule op) rules);
        differ = differ_created (new_rule op) rules are.differ (not_taken op rules op.tail creates facts.tail_is parts.0 parts.3);
        each = all_created is_rule (new_rule op) rules (new_is_rule op whole creates) are.each;
      };
    }

-- delete

deleted_kept : (op : Operation) (rules : List QosRule) (old : QosRule) → IsRules rules → found op.id rules ≡ Some old → old.default ≡ false → Kept rules (without op.id rules)
deleted_kept op rules old are there plain =
    let due = due_some rules op.id old there in
    let less : one_if old.default + defaults_of (without op.id rules) ≡ defaults_of rules = defaults_without op.id rules old there in
    let none : one_if old.default ≡ 0 = ap one_if plain in
    let one : defaults_of (without op.id rules) ≡ 1 = omega (arith, less, none, due, are.one_default) in
    record {
      rules_few = omega (arith, length_without op.id rules);
      filters_few = omega (arith, filters_without op.id rules);
      kept = λ rules_fit filters_fit. record {
        rules_fit = rules_fit;
        filters_fit = filters_fit;
        ordered = rise_without op.id rules are.ordered;
        one_default = one ∙ sym (due_one (without op.id rules) one);
        differ = differ_without op.id rules are.differ;
        each = all_without is_rule op.id rules are.each;
      };
    }

-- the other operations

stays_apart : (id : ℕ) (tail : Option (ℕ × ℕ)) (rules : List QosRule) (old : QosRule) → found id rules ≡ Some old → IsRules rules → is_taken id tail rules ≡ false
    → others_have id (precedence_in tail old.precedence) rules ≡ false
stays_apart id None rules old there are taken = others_differ id rules old there are.differ
stays_apart id (Some tail) rules old there are taken = taken

changed_kept : (op : Operation) (rules : List QosRule) (old : QosRule) → IsRules rules → is_operation op ≡ true → found op.id rules ≡ Some old → nat_eq op.code 2 ≡ false
    → MayChange op rules old → Kept rules (replaced (changed_rule op old) rules)
changed_kept op rules old are whole there stays may =
    let facts = op_facts op whole in
    let same : old.id ≡ op.id = found_id op.id rules old there in
    let new : QosRule = changed_rule op old in
    let found_there : found old.id rules ≡ Some old = ap (λ id. found id rules) same ∙ there in
    let few = few_filters op.code (length op.filters) facts.number_is in
    let taken : is_taken op.id op.tail rules ≡ false = grind (arith, stays, may.takes) in
    let apart : others_have op.id (precedence_in op.tail old.precedence) rules ≡ false = stays_apart op.id op.tail rules old there are taken in
    let apart_old : others_have old.id (precedence_in op.tail old.precedence) rules ≡ false = ap (λ id. others_have id (precedence_in op.tail old.precedence) rules) same ∙ apart in
    record {
      rules_few = omega (arith, length_replaced (changed_rule op old) rules);
      filters_few = omega (arith, filters_replaced (changed_rule op old) rules old found_there, changed_few op old.filters, few);
      kept = λ rules_fit filters_fit. record {
        rules_fit = rules_fit;
        filters_fit = filters_fit;
        ordered = rise_replaced (changed_rule op old) rules are.ordered;
        one_default = defaults_replaced (changed_rule op old) rules old found_there refl ∙ are.one_default ∙ sym (due_replaced (changed_rule op old) rules);
        differ = differ_replaced (changed_rule op old) rules are.differ are.ordered apart_old;
        each = all_replaced is_rule (changed_rule op old) rules (changed_is_rule op old whole (found_holds is_rule op.id rules old there are.each) may.joins may.leaves) are.each;
      };
    }

-- whatever the operation is
pub change_kept : (op : Operation) (rules : List QosRule) → IsRules rules → is_operation op ≡ true → is_wrong op rules ≡ false → Kept rules (changed op rules)
change_kept op rules are whole right = go (nat_eq op.code 1) refl right where
  on_found : (code_is : nat_eq op.code 1 ≡ false) (there : Option QosRule) → found op.id rules ≡ there → wrong_change op rules there ≡ false → Kept rules (with_changed op rules there)
  on_found code_is None none right = absurd (grind (arith, right))
  on_found code_is (Some old) there right = pick (nat_eq op.code 2) refl where
    may : MayChange op rules old
    may = may_change op rules old right

    pick : (b : Bool) → nat_eq op.code 2 ≡ b → Kept rules (cond b (without op.id rules) (replaced (changed_rule op old) rules))
    pick true deletes = deleted_kept op rules old are there (grind (arith, deletes, may.deletes))
    pick false stays = changed_kept op rules old are whole there stays may

  go : (b : Bool) → nat_eq op.code 1 ≡ b → cond b (wrong_create op rules) (wrong_change op rules (found op.id rules)) ≡ false
      → Kept rules (cond b (created (new_rule op) rules) (with_changed op rules (found op.id rules)))
  go true creates right = created_kept op rules are whole creates right
  go false changes right = on_found changes (found op.id rules) refl right

-- rules that are within their limits
limits : (rules new : List QosRule) → within_limits rules ≡ Ok new → (length rules ≤ 16) × (filters_of rules ≤ 64)
limits rules new h = go (nat_lt 16 (length rules)) (nat_lt 64 (filters_of rules)) refl refl h where
  go : (a b : Bool) → nat_lt 16 (length rules) ≡ a → nat_lt 64 (filters_of rules) ≡ b
      → cond a (Err (TooMany (length rules))) (cond b (Err (TooMany (filters_of rules))) (Ok rules)) ≡ Ok new
      → (length rules ≤ 16) × (filters_of rules ≤ 64)
  go true b many more h = cc
  go false true few many h = cc
  go false false few small h = (grind (arith, nat_tests, few), grind (arith, nat_tests, small))

pub kept_where_ok : {T : Type 0} (result : Result T ApplyRefusal) (rules new : List QosRule) → KeepsLimits result new → Kept rules new → OnOk result (IsRules new)
kept_where_ok (Ok _) rules new fits kept =
    let within = limits new new fits in kept.kept within.0 within.1
kept_where_ok (Err _) rules new fits kept = tt
