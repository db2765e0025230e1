-- What operations do to the rules of a session: a finite map from identifier to default bit, filters, precedence and QFI, which is kept
-- as a list in the order of identifiers.
use Rattle.std.specs.Prelude.{ℕ, Bool, true, false, not, List, [], ◌∷◌, ◌++◌, length, filter, nat_eq, nat_lt, ◌==◌, ◌&&◌, ◌||◌, Option, Some, None, Result, Ok, Err, if◌then◌else◌}
use Rattle.std.specs.List.{list_any}
use Rattle.nas_qos.specs.Filters.{PacketFilter, names}
use Rattle.nas_qos.specs.Operations.{Operation}
use Rattle.nas_qos.specs.Rules.{QosRule, filters_of}
use Rattle.nas_qos.specs.declared.refusals.QosFault.{QosFault}
use Rattle.nas_qos.specs.declared.refusals.QosFault.TheVariants.{Semantic, TooMany}

-- the rule of this identifier
abbrev pub found : ℕ → List QosRule → Option QosRule
found id [] = None
found id (rule ∷ rules) = if nat_eq rule.id id then Some rule else found id rules

-- the map with one more rule, without the rule of an identifier, and with a rule in place of the one of its identifier
abbrev pub created : QosRule → List QosRule → List QosRule
created new [] = new ∷ []
created new (rule ∷ rules) = if nat_lt rule.id new.id then rule ∷ created new rules else new ∷ rule ∷ rules

abbrev pub without : ℕ → List QosRule → List QosRule
without id [] = []
without id (rule ∷ rules) = if nat_eq rule.id id then rules else rule ∷ without id rules

abbrev pub replaced : QosRule → List QosRule → List QosRule
replaced new [] = []
replaced new (rule ∷ rules) = if nat_eq rule.id new.id then new ∷ rules else rule ∷ replaced new rules

-- Semantic errors. Create of a rule that is there:
abbrev pub creates_there : Operation → List QosRule → Bool
creates_there op rules = list_any (λ r. nat_eq r.id op.id) rules

-- a second default rule
abbrev pub second_default : Operation → List QosRule → Bool
second_default op rules = op.default && list_any (λ r. r.default) rules

-- a first rule that isn't default
abbrev pub first_not_default : Operation → List QosRule → Bool
first_not_default op rules = nat_eq (length rules) 0 && not op.default

-- a precedence that another rule has
abbrev pub is_taken : ℕ → Option (ℕ × ℕ) → List QosRule → Bool
is_taken id None rules = false
is_taken id (Some tail) rules = list_any (λ r. not (nat_eq r.id id) && nat_eq r.precedence tail.0) rules

-- delete of the default rule
abbrev pub deletes_default : Operation → QosRule → Bool
deletes_default op old = op.code == 2 && old.default

-- the default bit set on a rule that isn't default
abbrev pub sets_default : Operation → QosRule → Bool
sets_default op old = op.default && not old.default

-- add of a filter that is there
abbrev pub adds_there : Operation → List PacketFilter → Bool
adds_there op filters = op.code == 3 && list_any (λ f. names f.id filters) op.filters

-- delete of a filter that isn't there
abbrev pub deletes_missing : Operation → List PacketFilter → Bool
deletes_missing op filters = op.code == 5 && list_any (λ f. not (names f.id filters)) op.filters

-- the filters that are left where some are deleted
abbrev pub remaining : List PacketFilter → List PacketFilter → List PacketFilter
remaining gone filters = filter (λ f. not (names f.id gone)) filters

-- a rule left without filters
abbrev pub leaves_none : Operation → List PacketFilter → Bool
leaves_none op filters = op.code == 5 && nat_eq (length (remaining op.filters filters)) 0

-- in operation 2 the tail is passed over
abbrev pub takes_precedence : Operation → List QosRule → Bool
takes_precedence op rules = not (op.code == 2) && is_taken op.id op.tail rules

abbrev pub wrong_create : Operation → List QosRule → Bool
wrong_create op rules =
    creates_there op rules || second_default op rules || first_not_default op rules || is_taken op.id op.tail rules

-- operations 2 to 6; each is wrong on a rule that isn't there
abbrev pub wrong_change : Operation → List QosRule → Option QosRule → Bool
wrong_change op rules None = true
wrong_change op rules (Some old) =
    deletes_default op old || sets_default op old || adds_there op old.filters || deletes_missing op old.filters
    || leaves_none op old.filters || takes_precedence op rules

abbrev pub is_wrong : Operation → List QosRule → Bool
is_wrong op rules = if op.code == 1 then wrong_create op rules else wrong_change op rules (found op.id rules)

-- what a tail sets; without one there stays what was there
abbrev pub precedence_in : Option (ℕ × ℕ) → ℕ → ℕ
precedence_in None old = old
precedence_in (Some tail) old = tail.0

abbrev pub qfi_in : Option (ℕ × ℕ) → ℕ → ℕ
qfi_in None old = old
qfi_in (Some tail) old = tail.1

abbrev pub new_rule : Operation → QosRule
new_rule op = record {
  id = op.id;
  default = op.default;
  filters = op.filters;
  precedence = precedence_in op.tail 0;
  qfi = qfi_in op.tail 0;
}

abbrev pub changed_filters : Operation → List PacketFilter → List PacketFilter
changed_filters op filters =
    if op.code == 3 then filters ++ op.filters
    else if op.code == 4 then op.filters
    else if op.code == 5 then remaining op.filters filters
    else filters

abbrev pub changed_rule : Operation → QosRule → QosRule
changed_rule op old = record {
  id = old.id;
  default = old.default;
  filters = changed_filters op old.filters;
  precedence = precedence_in op.tail old.precedence;
  qfi = qfi_in op.tail old.qfi;
}

abbrev pub with_changed : Operation → List QosRule → Option QosRule → List QosRule
with_changed op rules None = rules
with_changed op rules (Some old) = if op.code == 2 then without op.id rules else replaced (changed_rule op old) rules

-- the map behind an operation that isn't wrong
abbrev pub changed : Operation → List QosRule → List QosRule
changed op rules = if op.code == 1 then created (new_rule op) rules else with_changed op rules (found op.id rules)

-- at most 16 rules, and 64 filters in all
abbrev pub within_limits : List QosRule → Result (List QosRule) QosFault
within_limits rules =
    if nat_lt 16 (length rules) then Err (TooMany (length rules))
    else if nat_lt 64 (filters_of rules) then Err (TooMany (filters_of rules))
    else Ok rules

-- one operation
abbrev pub applied : Operation → List QosRule → Result (List QosRule) QosFault
applied op rules = if is_wrong op rules then Err (Semantic op.id) else within_limits (changed op rules)

-- what comes after an operation; nothing after one that fails
abbrev pub next : Result (List QosRule) QosFault → (List QosRule → Result (List QosRule) QosFault) → Result (List QosRule) QosFault
next (Ok new) more = more new
next (Err fault) more = Err fault

-- one operation after the other; the first that fails decides
abbrev pub all_applied : List Operation → List QosRule → Result (List QosRule) QosFault
all_applied [] rules = Ok rules
all_applied (op ∷ ops) rules = next (applied op rules) (all_applied ops)
