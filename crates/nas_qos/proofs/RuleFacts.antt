-- A rule that an operation makes is a rule.
use Rattle.std.proofs.Common.{◌≡◌, ◌≤◌, ◌+◌, ℕ, Bool, true, false, not, ◌&&◌, List, ◌++◌, length, nat_eq, nat_lt, cond, Option, Some, None, sym, ◌∙◌, ap, arith, refl, length-append}
use Rattle.std.specs.List.{list_all, list_any}
use Rattle.std.proofs.lemmas.Bool.Decides.{nat_tests}
use Rattle.std.proofs.lemmas.Grind.{common_steps}
use Rattle.nas_qos.specs.Applying.{adds_there, changed_filters, changed_rule, leaves_none, new_rule, qfi_in, remaining}
use Rattle.nas_qos.specs.Filters.{PacketFilter, ids_differ, is_filter, is_filters, names}
use Rattle.nas_qos.specs.Operations.{Operation, has_number, is_code, is_directed, is_operation, is_tail}
use Rattle.nas_qos.specs.Rules.{QosRule, has_direction, is_rule}
use Rattle.nas_qos.proofs.FilterLists.{all_filtered, differ_filtered, differ_joined, length_filtered}

-- what holds of an operation, one by one
pub record OpFacts (op : Operation) : Type 0 where
  pub id_is : nat_lt 0 op.id ≡ true
  pub code_is : is_code op.code ≡ true
  pub number_is : has_number op.code (length op.filters) ≡ true
  pub filters_are : is_filters op.filters ≡ true
  pub directed : list_all (is_directed op.code) op.filters ≡ true
  pub tail_is : is_tail op.code op.tail ≡ true

six : (a b c d e f : Bool) → (a && b && c && d && e && f) ≡ true → (a ≡ true) × (b ≡ true) × (c ≡ true) × (d ≡ true) × (e ≡ true) × (f ≡ true)
six a b c d e f h = (grind (arith, h), grind (arith, h), grind (arith, h), grind (arith, h), grind (arith, h), grind (arith, h))

pub op_facts : (op : Operation) → is_operation op ≡ true → OpFacts op
op_facts op h =
    let parts = six (nat_lt 0 op.id) (is_code op.code) (has_number op.code (length op.filters)) (is_filters op.filters) (list_all (is_directed op.code) op.filters) (is_tail op.code op.tail) h in
    record { id_is = parts.0; code_is = parts.1; number_is = parts.2; filters_are = parts.3; directed = parts.4; tail_is = parts.5 }

-- and of a rule
pub record RuleFacts (rule : QosRule) : Type 0 where
  pub id_is : nat_lt 0 rule.id ≡ true
  pub some : nat_lt 0 (length rule.filters) ≡ true
  pub filters_are : is_filters rule.filters ≡ true
  pub directed : list_all has_direction rule.filters ≡ true
  pub qfi_is : nat_lt rule.qfi 64 ≡ true

five : (a b c d e : Bool) → (a && b && c && d && e) ≡ true → (a ≡ true) × (b ≡ true) × (c ≡ true) × (d ≡ true) × (e ≡ true)
five a b c d e h = (grind (arith, h), grind (arith, h), grind (arith, h), grind (arith, h), grind (arith, h))

all_five : (a b c d e : Bool) → a ≡ true → b ≡ true → c ≡ true → d ≡ true → e ≡ true → (a && b && c && d && e) ≡ true
all_five a b c d e is_a is_b is_c is_d is_e = grind (arith, is_a, is_b, is_c, is_d, is_e)

pub rule_facts : (rule : QosRule) → is_rule rule ≡ true → RuleFacts rule
rule_facts rule h =
    let parts = five (nat_lt 0 rule.id) (nat_lt 0 (length rule.filters)) (is_filters rule.filters) (list_all has_direction rule.filters) (nat_lt rule.qfi 64) h in
    record { id_is = parts.0; some = parts.1; filters_are = parts.2; directed = parts.3; qfi_is = parts.4 }

rule_from : (rule : QosRule) → RuleFacts rule → is_rule rule ≡ true
rule_from rule facts =
    all_five (nat_lt 0 rule.id) (nat_lt 0 (length rule.filters)) (is_filters rule.filters) (list_all has_direction rule.filters) (nat_lt rule.qfi 64)
    facts.id_is facts.some facts.filters_are facts.directed facts.qfi_is

-- filters of a rule
record OfRule (filters : List PacketFilter) : Type 0 where
  some : nat_lt 0 (length filters) ≡ true
  are : is_filters filters ≡ true
  directed : list_all has_direction filters ≡ true

pub has_filters : (code number : ℕ) → has_number code number ≡ true → nat_eq code 2 ≡ false → nat_eq code 6 ≡ false → nat_lt 0 number ≡ true
has_filters code number h not_delete not_plain = grind (arith, h, not_delete, not_plain)

pub few_filters : (code number : ℕ) → has_number code number ≡ true → number ≤ 15
few_filters code number h = grind (arith, nat_tests, h)

have_direction : (code : ℕ) (filters : List PacketFilter) → nat_eq code 5 ≡ false → list_all (is_directed code) filters ≡ true → list_all has_direction filters ≡ true
have_direction code filters other h =
    ap (λ (b : Bool). list_all (λ (f : PacketFilter). cond b (nat_eq f.direction 0) (nat_lt 0 f.direction)) filters) (sym other) ∙ h

given : (op : Operation) → OpFacts op → nat_eq op.code 2 ≡ false → nat_eq op.code 5 ≡ false → nat_eq op.code 6 ≡ false → OfRule op.filters
given op facts not_delete not_named not_plain = record {
  some = has_filters op.code (length op.filters) facts.number_is not_delete not_plain;
  are = facts.filters_are;
  directed = have_direction op.code op.filters not_named facts.directed;
}

both : (a b : Bool) → (a && b) ≡ true → (a ≡ true) × (b ≡ true)
both a b h = (grind (arith, h), grind (arith, h))

and_both : (a b : Bool) → a ≡ true → b ≡ true → (a && b) ≡ true
and_both a b is_a is_b = grind (arith, is_a, is_b)

-- filters joined to others
pub joined_filters : (there more : List PacketFilter) → is_filters there ≡ true → is_filters more ≡ true → list_any (λ f. names f.id there) more ≡ false → is_filters (there ++ more) ≡ true
joined_filters there more old new none =
    let a = both (list_all is_filter there) (ids_differ there) old in
    let b = both (list_all is_filter more) (ids_differ more) new in
    and_both (list_all is_filter (there ++ more)) (ids_differ (there ++ more)) (grind (arith, common_steps, a.0, b.0)) (differ_joined there more a.1 b.1 none)

-- filters that are left
pub left_filters : (gone filters : List PacketFilter) → is_filters filters ≡ true → is_filters (remaining gone filters) ≡ true
left_filters gone filters old =
    let a = both (list_all is_filter filters) (ids_differ filters) old in
    and_both (list_all is_filter (remaining gone filters)) (ids_differ (remaining gone filters))
    (all_filtered is_filter (λ f. not (names f.id gone)) filters a.0) (differ_filtered (λ f. not (names f.id gone)) filters a.1)

joined_of_rule : (there more : List PacketFilter) → OfRule there → OfRule more → list_any (λ f. names f.id there) more ≡ false → OfRule (there ++ more)
joined_of_rule there more old new none = record {
  some = grind (arith, nat_tests, common_steps, old.some);
  are = joined_filters there more old.are new.are none;
  directed = grind (arith, common_steps, old.directed, new.directed);
}

left_of_rule : (gone filters : List PacketFilter) → OfRule filters → nat_eq (length (remaining gone filters)) 0 ≡ false → OfRule (remaining gone filters)
left_of_rule gone filters old some = record {
  some = grind (arith, nat_tests, some);
  are = left_filters gone filters old.are;
  directed = all_filtered has_direction (λ f. not (names f.id gone)) filters old.directed;
}

other_code : (code a b : ℕ) → nat_eq code a ≡ true → nat_eq a b ≡ false → nat_eq code b ≡ false
other_code code a b is_a differ = grind (arith, nat_tests, is_a, differ)

changed_of_rule : (op : Operation) (filters : List PacketFilter) → OpFacts op → OfRule filters → adds_there op filters ≡ false → leaves_none op filters ≡ false → OfRule (changed_filters op filters)
changed_of_rule op filters facts old joins leaves = go (nat_eq op.code 3) (nat_eq op.code 4) (nat_eq op.code 5) refl refl refl joins leaves where
  go : (a b c : Bool) → nat_eq op.code 3 ≡ a → nat_eq op.code 4 ≡ b → nat_eq op.code 5 ≡ c
      → (a && list_any (λ f. names f.id filters) op.filters) ≡ false
      → (c && nat_eq (length (remaining op.filters filters)) 0) ≡ false
      → OfRule (cond a (filters ++ op.filters) (cond b op.filters (cond c (remaining op.filters filters) filters)))
  go true b c adds is_b is_c joins leaves =
      joined_of_rule filters op.filters old (given op facts (other_code op.code 3 2 adds refl) (other_code op.code 3 5 adds refl) (other_code op.code 3 6 adds refl)) joins
  go false true c is_a replaces is_c joins leaves =
      given op facts (other_code op.code 4 2 replaces refl) (other_code op.code 4 5 replaces refl) (other_code op.code 4 6 replaces refl)
  go false false true is_a is_b deletes joins leaves = left_of_rule op.filters filters old leaves
  go false false false is_a is_b is_c joins leaves = old

qfi_fits : (code : ℕ) (tail : Option (ℕ × ℕ)) (old : ℕ) → is_tail code tail ≡ true → nat_lt old 64 ≡ true → nat_lt (qfi_in tail old) 64 ≡ true
qfi_fits code None old h fits = fits
qfi_fits code (Some tail) old h fits = h

pub new_is_rule : (op : Operation) → is_operation op ≡ true → nat_eq op.code 1 ≡ true → is_rule (new_rule op) ≡ true
new_is_rule op whole creates =
    let facts = op_facts op whole in
    let filters = given op facts (other_code op.code 1 2 creates refl) (other_code op.code 1 5 creates refl) (other_code op.code 1 6 creates refl) in
    rule_from (new_rule op)
    record {
      id_is = facts.id_is;
      some = filters.some;
      filters_are = filters.are;
      directed = filters.directed;
      qfi_is = qfi_fits op.code op.tail 0 facts.tail_is refl;
    }

pub changed_is_rule : (op : Operation) (old : QosRule) → is_operation op ≡ true → is_rule old ≡ true → adds_there op old.filters ≡ false → leaves_none op old.filters ≡ false
    → is_rule (changed_rule op old) ≡ true
changed_is_rule op old whole rule joins leaves =
    let facts = op_facts op whole in
    let there = rule_facts old rule in
    let filters = changed_of_rule op old.filters facts (record { some = there.some; are = there.filters_are; directed = there.directed }) joins leaves in
    rule_from (changed_rule op old)
    record {
      id_is = there.id_is;
      some = filters.some;
      filters_are = filters.are;
      directed = filters.directed;
      qfi_is = qfi_fits op.code op.tail old.qfi facts.tail_is there.qfi_is;
    }

-- an operation adds at most its own filters
pub changed_few : (op : Operation) (filters : List PacketFilter) → length (changed_filters op filters) ≤ length filters + length op.filters
changed_few op filters = go (nat_eq op.code 3) (nat_eq op.code 4) (nat_eq op.code 5) where
  go : (a b c : Bool) → length (cond a (filters ++ op.filters) (cond b op.filters (cond c (remaining op.filters filters) filters))) ≤ length filters + length op.filters
  go true b c = omega (arith, length-append filters op.filters)
  go false true c = omega arith
  go false false true = omega (arith, length_filtered (λ f. not (names f.id op.filters)) filters)
  go false false false = omega arith

-- the changed rule, field by field
pub rule_made : (op : Operation) (old : QosRule) (id : ℕ) (default : Bool) (filters : List PacketFilter) (precedence qfi : ℕ)
    → id ≡ old.id → filters ≡ changed_filters op old.filters → qfi ≡ qfi_in op.tail old.qfi
    → is_rule (changed_rule op old) ≡ true → is_rule (record { id = id; default = default; filters = filters; precedence = precedence; qfi = qfi }) ≡ true
rule_made op old id default filters precedence qfi id_is filters_are qfi_is whole =
    let there = rule_facts (changed_rule op old) whole in
    rule_from (record { id = id; default = default; filters = filters; precedence = precedence; qfi = qfi })
    record {
      id_is = ap (λ (n : ℕ). nat_lt 0 n) id_is ∙ there.id_is;
      some = ap (λ (fs : List PacketFilter). nat_lt 0 (length fs)) filters_are ∙ there.some;
      filters_are = ap is_filters filters_are ∙ there.filters_are;
      directed = ap (list_all has_direction) filters_are ∙ there.directed;
      qfi_is = ap (λ (n : ℕ). nat_lt n 64) qfi_is ∙ there.qfi_is;
    }
