-- Rules that are told to be the same are the same.
use Rattle.std.proofs.Common.{◌≡◌, refl, sym, ◌∙◌, ap, subst, Bool, true, false, ℕ, List, [], ◌∷◌, ◌&&◌, ◌==◌, IsTrue, arith}
use Rattle.std.specs.List.{list_all}
use Rattle.std.specs.Str.{bytes_eq}
use Rattle.std.proofs.lemmas.Bool.Decides.{nat_tests}
use Rattle.std.proofs.lemmas.Slice.Eq.{bytes_eq-Decides}
use Rattle.nas_qos.proofs.PartsBack.{same_parts}
use Rattle.nas_qos.specs.Filters.{PacketFilter, is_filter}
use Rattle.nas_qos.specs.Parts.{is_parts, parts_octets}
use Rattle.nas_qos.specs.Rules.{QosRule, is_rule}
use Rattle.nas_qos.specs.declared.part.Part.{Part}
use Rattle.smf_core.specs.Sameness.{are_same_filters, are_same_rules, is_same_bit, is_same_filter, is_same_rule}

both_of : (a b : Bool) → (a && b) ≡ true → (a ≡ true) × (b ≡ true)
both_of true b e = (refl, e)
both_of false b e = absurd (cc)

and_of : (a b : Bool) → a ≡ true → b ≡ true → (a && b) ≡ true
and_of true b one other = other
and_of false b one other = absurd (cc)

same_number : (a b : ℕ) → a == b ≡ true → a ≡ b
same_number a b e = grind (arith, nat_tests, e)

number_same : (a : ℕ) → a == a ≡ true
number_same a = grind (arith, nat_tests)

same_octets : (a b : List ℕ) → bytes_eq a b ≡ true → a ≡ b
same_octets a b e = grind (arith, bytes_eq-Decides a b, e)

octets_same : (a : List ℕ) → bytes_eq a a ≡ true
octets_same a = grind (arith, bytes_eq-Decides a a)

same_bits : (a b : Bool) → is_same_bit a b ≡ true → a ≡ b
same_bits true true e = refl
same_bits true false e = absurd (cc)
same_bits false true e = absurd (cc)
same_bits false false e = refl

bit_same : (a : Bool) → is_same_bit a a ≡ true
bit_same true = refl
bit_same false = refl

-- a filter, filters
parts_of : (f : PacketFilter) → is_filter f ≡ true → is_parts f.parts ≡ true
parts_of f right = grind (arith, right)

filter_ext : (f g : PacketFilter) → f.id ≡ g.id → f.direction ≡ g.direction → f.parts ≡ g.parts → f ≡ g
filter_ext f g id direction parts =
    let one : ℕ → PacketFilter = λ n. record { id = n; direction = f.direction; parts = f.parts } in
    let two : ℕ → PacketFilter = λ n. record { id = g.id; direction = n; parts = f.parts } in
    let three : List Part → PacketFilter = λ p. record { id = g.id; direction = g.direction; parts = p } in
    ap one id ∙ ap two direction ∙ ap three parts

same_filter : (f g : PacketFilter) → is_filter f ≡ true → is_filter g ≡ true → is_same_filter f g ≡ true → f ≡ g
same_filter f g right left e =
    let all = both_of (f.id == g.id && f.direction == g.direction) (bytes_eq (parts_octets f.parts) (parts_octets g.parts)) e in
    let heads = both_of (f.id == g.id) (f.direction == g.direction) all.0 in
    filter_ext f g (same_number f.id g.id heads.0) (same_number f.direction g.direction heads.1)
    (same_parts f.parts g.parts (parts_of f right) (parts_of g left) (same_octets (parts_octets f.parts) (parts_octets g.parts) all.1))

same_filters : (fs gs : List PacketFilter) → list_all is_filter fs ≡ true → list_all is_filter gs ≡ true
    → are_same_filters fs gs ≡ true → fs ≡ gs
same_filters [] [] right left e = refl
same_filters [] (g ∷ gs) right left e = absurd (cc)
same_filters (f ∷ fs) [] right left e = absurd (cc)
same_filters (f ∷ fs) (g ∷ gs) right left e =
    let both = both_of (is_same_filter f g) (are_same_filters fs gs) e in
    let one = both_of (is_filter f) (list_all is_filter fs) right in
    let other = both_of (is_filter g) (list_all is_filter gs) left in
    ap (λ head. head ∷ fs) (same_filter f g one.0 other.0 both.0)
    ∙ ap (λ rest. g ∷ rest) (same_filters fs gs one.1 other.1 both.1)

filters_same : (fs : List PacketFilter) → are_same_filters fs fs ≡ true
filters_same [] = refl
filters_same (f ∷ fs) =
    and_of (is_same_filter f f) (are_same_filters fs fs)
    (and_of (f.id == f.id && f.direction == f.direction) (bytes_eq (parts_octets f.parts) (parts_octets f.parts))
    (and_of (f.id == f.id) (f.direction == f.direction) (number_same f.id) (number_same f.direction))
    (octets_same (parts_octets f.parts)))
    (filters_same fs)

-- a rule, rules
filters_in : (r : QosRule) → is_rule r ≡ true → list_all is_filter r.filters ≡ true
filters_in r right = grind (arith, right)

rule_ext : (r s : QosRule) → r.id ≡ s.id → r.default ≡ s.default → r.filters ≡ s.filters → r.precedence ≡ s.precedence
    → r.qfi ≡ s.qfi → r ≡ s
rule_ext r s id default filters precedence qfi =
    let one : ℕ → QosRule = λ n. record { id = n; default = r.default; filters = r.filters; precedence = r.precedence; qfi = r.qfi } in
    let two : Bool → QosRule = λ n. record { id = s.id; default = n; filters = r.filters; precedence = r.precedence; qfi = r.qfi } in
    let three : List PacketFilter → QosRule = λ n. record { id = s.id; default = s.default; filters = n; precedence = r.precedence; qfi = r.qfi } in
    let four : ℕ → QosRule = λ n. record { id = s.id; default = s.default; filters = s.filters; precedence = n; qfi = r.qfi } in
    let five : ℕ → QosRule = λ n. record { id = s.id; default = s.default; filters = s.filters; precedence = s.precedence; qfi = n } in
    ap one id ∙ ap two default ∙ ap three filters ∙ ap four precedence ∙ ap five qfi

same_rule : (r s : QosRule) → is_rule r ≡ true → is_rule s ≡ true → is_same_rule r s ≡ true → r ≡ s
same_rule r s right left e =
    let a = both_of (r.id == s.id && is_same_bit r.default s.default && are_same_filters r.filters s.filters && r.precedence == s.precedence) (r.qfi == s.qfi) e in
    let b = both_of (r.id == s.id && is_same_bit r.default s.default && are_same_filters r.filters s.filters) (r.precedence == s.precedence) a.0 in
    let c = both_of (r.id == s.id && is_same_bit r.default s.default) (are_same_filters r.filters s.filters) b.0 in
    let d = both_of (r.id == s.id) (is_same_bit r.default s.default) c.0 in
    rule_ext r s (same_number r.id s.id d.0) (same_bits r.default s.default d.1)
    (same_filters r.filters s.filters (filters_in r right) (filters_in s left) c.1)
    (same_number r.precedence s.precedence b.1) (same_number r.qfi s.qfi a.1)

pub same_rules : (rs ss : List QosRule) → list_all is_rule rs ≡ true → list_all is_rule ss ≡ true
    → are_same_rules rs ss ≡ true → rs ≡ ss
same_rules [] [] right left e = refl
same_rules [] (s ∷ ss) right left e = absurd (cc)
same_rules (r ∷ rs) [] right left e = absurd (cc)
same_rules (r ∷ rs) (s ∷ ss) right left e =
    let both = both_of (is_same_rule r s) (are_same_rules rs ss) e in
    let one = both_of (is_rule r) (list_all is_rule rs) right in
    let other = both_of (is_rule s) (list_all is_rule ss) left in
    ap (λ head. head ∷ rs) (same_rule r s one.0 other.0 both.0)
    ∙ ap (λ rest. s ∷ rest) (same_rules rs ss one.1 other.1 both.1)

rule_same : (r : QosRule) → is_same_rule r r ≡ true
rule_same r =
    and_of
    (r.id == r.id && is_same_bit r.default r.default && are_same_filters r.filters r.filters && r.precedence == r.precedence) (r.qfi == r.qfi)
    (and_of (r.id == r.id && is_same_bit r.default r.default && are_same_filters r.filters r.filters) (r.precedence == r.precedence)
    (and_of (r.id == r.id && is_same_bit r.default r.default) (are_same_filters r.filters r.filters)
    (and_of (r.id == r.id) (is_same_bit r.default r.default) (number_same r.id) (bit_same r.default))
    (filters_same r.filters)) (number_same r.precedence)) (number_same r.qfi)

pub rules_same : (rs : List QosRule) → are_same_rules rs rs ≡ true
rules_same [] = refl
rules_same (r ∷ rs) = and_of (is_same_rule r r) (are_same_rules rs rs) (rule_same r) (rules_same rs)

-- what a test comes to that says whether rules are equal
bool_cases : (b : Bool) → (b ≡ true → ⊥) → b ≡ false
bool_cases true no_way = absurd (no_way refl)
bool_cases false no_way = refl

pub told_same : (rs ss : List QosRule) → list_all is_rule rs ≡ true → list_all is_rule ss ≡ true → (test : Bool)
    → (IsTrue test → rs ≡ ss) → (rs ≡ ss → IsTrue test) → test ≡ are_same_rules rs ss
told_same rs ss right left true same back =
    let e : rs ≡ ss = same refl in
    let P : List QosRule → Type 0 = λ x. true ≡ are_same_rules rs x in
    subst P e (sym (rules_same rs))
told_same rs ss right left false same back =
    sym (bool_cases (are_same_rules rs ss) (λ e. let no_way : false ≡ true = back (same_rules rs ss right left e) in cc))
