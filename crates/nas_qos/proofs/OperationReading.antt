-- Reading operations one after the other.
use Rattle.std.proofs.Common.{◌≡◌, ◌<◌, ◌≤◌, ◌==◌, ◌+◌, ◌-◌, ◌/◌, ◌%◌, ℕ, Bool, true, cond, nat_eq, nat_le, nat_lt, ◌&&◌, List, [], ◌∷◌, ◌++◌, length, take, drop, get_or, length-append, length-drop, Option, Some, None, Ok, sym, ◌∙◌, ap, arith}
use Rattle.std.specs.List.{list_all}
use Rattle.std.proofs.lemmas.Bool.{and_from, and_parts, eqb-true, eq-eqb, le-leb, leb-true, lt-ltb}
use Rattle.std.proofs.lemmas.Bool.Decides.{nat_tests}
use Rattle.std.proofs.lemmas.Grind.{common_steps}
use Rattle.nas_qos.specs.Filters.{PacketFilter, differing, filters_in, filters_octets, is_filters}
use Rattle.nas_qos.specs.Operations.{Operation, first_operation, has_number, is_code, is_directed, is_operation, is_ops, is_tail, operation_in, operation_octets, operation_of, operation_size, operation_with, ops_in, ops_octets, tail_in, tail_octets}
use Rattle.nas_qos.specs.Ranges.{are_filters_of, is_operation_at, is_operation_of}
use Rattle.nas_qos.proofs.TurnsReading.{Turned, all_read}

facts : (a : Bool) (x y u v w z : ℕ) → (a && nat_eq x y && nat_le u v && nat_le w z) ≡ true → (a ≡ true) × (x ≡ y) × (u ≤ v) × (w ≤ z)
facts a x y u v w z h = (grind (arith, nat_tests, h), grind (arith, nat_tests, h), grind (arith, nat_tests, h), grind (arith, nat_tests, h))

pub operation_parts : (at : ℕ) (octets : List ℕ) (op : Operation) → is_operation_at at octets op ≡ true
    → (is_operation op ≡ true) × (length (operation_octets op) ≡ operation_size octets) × (operation_size octets ≤ length octets) × (at + operation_size octets ≤ 2048)
operation_parts at octets op h =
    facts (is_operation op) (length (operation_octets op)) (operation_size octets) (operation_size octets) (length octets) (at + operation_size octets) 2048 h

pub within_more : (whole : ℕ) (rest : List ℕ) (size : ℕ) → size ≤ length rest → whole - length rest + size ≤ 2048 → whole - length (drop size rest) ≤ 2048
within_more whole rest size fits ends = omega (arith, length-drop {A = ℕ} size rest, fits, ends)

-- all operations were read
pub ops_read : (octets : List ℕ) (ops : List Operation) (rest : List ℕ) → Turned first_operation operation_size operation_octets octets ops rest → length rest ≡ 0
    → length octets - length rest ≤ 2048 → list_all is_operation ops ≡ true → (ops_in octets ≡ Ok ops) × (is_ops ops ≡ true)
ops_read octets ops rest so none fits good =
    let all = all_read first_operation operation_size operation_octets octets ops rest so none in
    let few : length (ops_octets ops) ≤ 2048 = omega (arith, all.1, none, fits) in
    (all.0, and_from (list_all is_operation ops) (nat_le (length (ops_octets ops)) 2048) good (le-leb (length (ops_octets ops)) 2048 few))

-- the contents of an operation, of which the first octet is looked at
pub starts : (octets : List ℕ) → 1 ≤ length octets → octets ≡ get_or octets 0 0 ∷ take (length octets - 1) (drop 1 octets)
starts [] some = absurd (omega arith)
starts (first ∷ octets) some =
    let all : octets ≡ take (length (first ∷ octets) - 1) octets = grind (arith, common_steps) in ap (λ os. first ∷ os) all

filters_parts : (a b : Bool) (x y u v w z : ℕ) → (a && b && nat_eq x y && nat_eq u v && nat_le w z) ≡ true
    → (a ≡ true) × (b ≡ true) × (x ≡ y) × (u ≡ v) × (w ≤ z)
filters_parts a b x y u v w z h =
    let p = and_parts (a && b && nat_eq x y && nat_eq u v) (nat_le w z) h in
    let q = and_parts (a && b && nat_eq x y) (nat_eq u v) p.0 in
    let r = and_parts (a && b) (nat_eq x y) q.0 in
    let s = and_parts a b r.0 in
    (s.0, s.1, eqb-true x y r.1, eqb-true u v q.1, leb-true w z p.1)

-- the first octet, the filters and the tail of an operation make it
pub operation_read : (id first : ℕ) (whole octets rest : List ℕ) (filters : List PacketFilter) (size : ℕ) (tail : Option (ℕ × ℕ))
    → whole ≡ first ∷ octets
    → 0 < id
    → is_code (first / 32) ≡ true
    → has_number (first / 32) (first % 16) ≡ true
    → differing (filters_in (first % 16) (first / 32) octets) ≡ Some (filters, size)
    → are_filters_of (first % 16) (first / 32) octets (filters, size) ≡ true
    → rest ≡ drop size octets
    → Some tail ≡ tail_in (first / 32) rest
    → is_tail (first / 32) tail ≡ true
    → length (tail_octets tail) ≡ length rest
    → (operation_in id whole ≡ Some (record { id = id; code = first / 32; default = first / 16 % 2 == 1; filters = filters; tail = tail }))
    × (is_operation_of (length whole) (record { id = id; code = first / 32; default = first / 16 % 2 == 1; filters = filters; tail = tail }) ≡ true)
operation_read id first whole octets rest filters size tail starts_so named code_is number_is found are behind tail_is tail_good tail_size = (read, sized) where
  code : ℕ
  code = first / 32

  op : Operation
  op = record { id = id; code = first / 32; default = first / 16 % 2 == 1; filters = filters; tail = tail }

  parts : (is_filters filters ≡ true) × (list_all (is_directed (first / 32)) filters ≡ true) × (length filters ≡ first % 16) × (length (filters_octets (first / 32) filters) ≡ size) × (size ≤ length octets)
  parts = filters_parts (is_filters filters) (list_all (is_directed (first / 32)) filters) (length filters) (first % 16) (length (filters_octets (first / 32) filters)) size size (length octets) are

  read : operation_in id whole ≡ Some (record { id = id; code = first / 32; default = first / 16 % 2 == 1; filters = filters; tail = tail })
  read =
      ap (operation_in id) starts_so
      ∙ ap (λ (b : Bool). cond b (operation_with id (first / 32) (first / 16 % 2 == 1) octets (differing (filters_in (first % 16) (first / 32) octets))) None) (and_from (is_code (first / 32)) (has_number (first / 32) (first % 16)) code_is number_is)
      ∙ ap (operation_with id (first / 32) (first / 16 % 2 == 1) octets) found
      ∙ ap (λ os. operation_of id (first / 32) (first / 16 % 2 == 1) filters (tail_in (first / 32) os)) (sym behind)
      ∙ ap (operation_of id (first / 32) (first / 16 % 2 == 1) filters) (sym tail_is)

  sized : is_operation_of (length whole) (record { id = id; code = first / 32; default = first / 16 % 2 == 1; filters = filters; tail = tail }) ≡ true
  sized =
      let number : has_number (first / 32) (length filters) ≡ true = ap (has_number (first / 32)) parts.2 ∙ number_is in
      let good : is_operation op ≡ true =
      and_from (nat_lt 0 id && is_code (first / 32) && has_number (first / 32) (length filters) && is_filters filters && list_all (is_directed (first / 32)) filters) (is_tail (first / 32) tail)
      (and_from (nat_lt 0 id && is_code (first / 32) && has_number (first / 32) (length filters) && is_filters filters) (list_all (is_directed (first / 32)) filters)
      (and_from (nat_lt 0 id && is_code (first / 32) && has_number (first / 32) (length filters)) (is_filters filters)
      (and_from (nat_lt 0 id && is_code (first / 32)) (has_number (first / 32) (length filters)) (and_from (nat_lt 0 id) (is_code (first / 32)) (lt-ltb 0 id named) code_is) number)
      parts.0) parts.1) tail_good in
      let all : length whole ≡ length (first ∷ octets) = ap length starts_so in
      let left : length rest ≡ length (drop size octets) = ap length behind in
      let inner : length (filters_octets (first / 32) filters ++ tail_octets tail) ≡ length octets =
      omega (arith, length-append (filters_octets (first / 32) filters) (tail_octets tail), parts.3, tail_size, left, length-drop {A = ℕ} size octets, parts.4) in
      let octets_of : length (operation_octets op) ≡ 3 + length whole = omega (arith, all, inner) in
      and_from (is_operation op) (nat_eq (length (operation_octets op)) (3 + length whole)) good (eq-eqb (length (operation_octets op)) (3 + length whole) octets_of)
