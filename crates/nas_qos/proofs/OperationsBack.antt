-- Operations that are written are read back.
use Rattle.std.proofs.Common.{◌≡◌, ◌<◌, ◌≤◌, ◌+◌, ◌-◌, ◌*◌, ◌/◌, ◌%◌, ◌^◌, ℕ, Bool, true, false, not, ◌&&◌, List, ◌++◌, length, take, drop, nat_eq, nat_le, length-append, append_assoc, cond, Option, Some, None, Ok, sym, ◌∙◌, ap, arith, refl}
use Rattle.std.specs.List.{list_all}
use Rattle.std.proofs.lemmas.Bool.Decides.{nat_tests}
use Rattle.std.proofs.lemmas.Grind.{common_steps}
use Rattle.byteorder.specs.Endian.{big_bytes, big_number}
use Rattle.byteorder.specs.Numbers.{big_number-reads_back, length-bytes_high_first}
use Rattle.nas_qos.specs.Filters.{PacketFilter, differing, filters_in, filters_octets, ids_differ, is_filter}
use Rattle.nas_qos.specs.Operations.{Operation, contents, ends_in_time, first_octet, first_operation, has_number, is_code, is_operation, is_ops, is_tail, is_there_whole, names_a_rule, operation_in, operation_octets, operation_of, operation_size, operation_with, ops_in, ops_octets, tail_in, tail_octets}
use Rattle.nas_qos.proofs.FiltersBack.{filters_back}
use Rattle.nas_qos.proofs.RuleFacts.{OpFacts, few_filters, op_facts}
use Rattle.nas_qos.proofs.TurnsBack.{Back, all_back, both}

tail_back : (code : ℕ) (tail : Option (ℕ × ℕ)) → is_tail code tail ≡ true → tail_in code (tail_octets tail) ≡ Some tail
tail_back code None h = go (nat_eq code 1) h where
  none : Option (Option (ℕ × ℕ))
  none = None

  go : (b : Bool) → not b ≡ true → cond b none (Some None) ≡ Some None
  go true h = cc
  go false h = refl
tail_back code (Some tail) h =
    let qfi : tail.1 % 64 ≡ tail.1 = grind (arith, nat_tests, h) in ap (λ (n : ℕ). Some (Some (tail.0, n))) qfi

-- the parts of the first octet
record OctetBack (op : Operation) : Type 0 where
  code_is : first_octet op / 32 ≡ op.code
  number_is : first_octet op % 16 ≡ length op.filters
  default_is : nat_eq (first_octet op / 16 % 2) 1 ≡ op.default

octet_back : (op : Operation) → length op.filters ≤ 15 → OctetBack op
octet_back op few = go op.default refl where
  go : (b : Bool) → op.default ≡ b → OctetBack op
  go true is =
      let octet : first_octet op ≡ 32 * op.code + 16 + length op.filters = ap (λ (b : Bool). 32 * op.code + cond b 16 0 + length op.filters) is in
      let bit : first_octet op / 16 % 2 ≡ 1 = omega (arith, octet, few) in
      record {
        code_is = omega (arith, octet, few);
        number_is = omega (arith, octet, few);
        default_is = ap (λ (n : ℕ). nat_eq n 1) bit ∙ sym is;
      }
  go false is =
      let octet : first_octet op ≡ 32 * op.code + 0 + length op.filters = ap (λ (b : Bool). 32 * op.code + cond b 16 0 + length op.filters) is in
      let bit : first_octet op / 16 % 2 ≡ 0 = omega (arith, octet, few) in
      record {
        code_is = omega (arith, octet, few);
        number_is = omega (arith, octet, few);
        default_is = ap (λ (n : ℕ). nat_eq n 1) bit ∙ sym is;
      }

differing_back : (read : List PacketFilter × ℕ) → ids_differ read.0 ≡ true → differing (Some read) ≡ Some read
differing_back read h = ap (λ (b : Bool). cond b (Some read) None) h

contents_back : (op : Operation) → OpFacts op → operation_in op.id (contents op) ≡ Some op
contents_back op facts =
    let few = few_filters op.code (length op.filters) facts.number_is in
    let octet = octet_back op few in
    let body : List ℕ = filters_octets op.code op.filters ++ tail_octets op.tail in
    let are = both (list_all is_filter op.filters) (ids_differ op.filters) facts.filters_are in
    let read = filters_back op.code op.filters (tail_octets op.tail) are.0 facts.directed in
    let differ = differing_back (op.filters, length (filters_octets op.code op.filters)) are.1 in
    let behind : drop (length (filters_octets op.code op.filters)) body ≡ tail_octets op.tail = grind (arith, common_steps) in
    let tail = tail_back op.code op.tail facts.tail_is in
    let Made : ℕ → ℕ → Bool → Option Operation = λ code number bit.
    cond (is_code code && has_number code number) (operation_with op.id code bit body (differing (filters_in number code body))) None in
    let right : (is_code op.code && has_number op.code (length op.filters)) ≡ true = grind (arith, facts.code_is, facts.number_is) in
    ap (λ (code : ℕ). Made code (first_octet op % 16) (nat_eq (first_octet op / 16 % 2) 1)) octet.code_is
    ∙ ap (λ (number : ℕ). Made op.code number (nat_eq (first_octet op / 16 % 2) 1)) octet.number_is
    ∙ ap (λ (bit : Bool). Made op.code (length op.filters) bit) octet.default_is
    ∙ ap (λ (b : Bool). cond b (operation_with op.id op.code op.default body (differing (filters_in (length op.filters) op.code body))) None) right
    ∙ ap (λ x. operation_with op.id op.code op.default body (differing x)) read
    ∙ ap (operation_with op.id op.code op.default body) differ
    ∙ ap (λ os. operation_of op.id op.code op.default op.filters (tail_in op.code os)) behind
    ∙ ap (operation_of op.id op.code op.default op.filters) tail

operation_back : (at : ℕ) (op : Operation) (rest : List ℕ) → is_operation op ≡ true → at + length (operation_octets op) ≤ 2048 → Back first_operation operation_size operation_octets at op rest
operation_back at op rest whole fits =
    let facts = op_facts op whole in
    let inner : List ℕ = contents op in
    let width : length (big_bytes 2 (length inner)) ≡ 2 = length-bytes_high_first 2 (length inner) in
    let size_is : length (operation_octets op) ≡ 3 + length inner = omega (arith, length-append (big_bytes 2 (length inner)) inner, width) in
    let split : drop 1 (operation_octets op ++ rest) ≡ big_bytes 2 (length inner) ++ (inner ++ rest) = append_assoc (big_bytes 2 (length inner)) inner rest in
    let small : length inner < 256 ^ 2 = omega (arith, size_is, fits) in
    let number : big_number 2 (drop 1 (operation_octets op ++ rest)) ≡ length inner = ap (big_number 2) split ∙ big_number-reads_back 2 (length inner) (inner ++ rest) small in
    let sized : operation_size (operation_octets op ++ rest) ≡ 3 + length inner = ap (λ (n : ℕ). 3 + n) number in
    let all : length (operation_octets op ++ rest) ≡ 3 + length inner + length rest = omega (arith, length-append (operation_octets op) rest, size_is) in
    let there : is_there_whole (operation_octets op ++ rest) ≡ true = grind (arith, nat_tests, sized, all) in
    let in_time : ends_in_time at (operation_octets op ++ rest) ≡ true = grind (arith, nat_tests, sized, size_is, fits) in
    let right : (is_there_whole (operation_octets op ++ rest) && ends_in_time at (operation_octets op ++ rest) && names_a_rule op.id) ≡ true = grind (arith, there, in_time, facts.id_is) in
    let less : operation_size (operation_octets op ++ rest) - 3 ≡ length inner = omega (arith, sized) in
    let behind : drop 3 (operation_octets op ++ rest) ≡ inner ++ rest = refl in
    let front : take (length inner) (inner ++ rest) ≡ inner = grind (arith, common_steps) in
    record {
      found = ap (λ (b : Bool). cond b (operation_in op.id (take (operation_size (operation_octets op ++ rest) - 3) (drop 3 (operation_octets op ++ rest)))) None) right
          ∙ ap (λ (n : ℕ). operation_in op.id (take n (drop 3 (operation_octets op ++ rest)))) less
          ∙ ap (λ (os : List ℕ). operation_in op.id (take (length inner) os)) behind
          ∙ ap (operation_in op.id) front
          ∙ contents_back op facts;
      sized = sized ∙ sym size_is;
    }

some_octets : (op : Operation) → 0 < length (operation_octets op)
some_octets op = omega arith

pub ops_back : (ops : List Operation) → is_ops ops ≡ true → ops_in (ops_octets ops) ≡ Ok ops
ops_back ops whole =
    let facts = both (list_all is_operation ops) (nat_le (length (ops_octets ops)) 2048) whole in
    let fits : length (ops_octets ops) ≤ 2048 = grind (arith, nat_tests, facts.1) in
    all_back first_operation operation_size operation_octets is_operation 2048 operation_back some_octets ops (length (ops_octets ops)) 0 facts.0 (omega arith) (omega (arith, fits))

-- operations that are written alike are the same
pub same_ops : (ops others : List Operation) → is_ops ops ≡ true → is_ops others ≡ true → ops_octets ops ≡ ops_octets others → ops ≡ others
same_ops ops others whole right same =
    let one = sym (ops_back ops whole) ∙ ap ops_in same ∙ ops_back others right in cc
