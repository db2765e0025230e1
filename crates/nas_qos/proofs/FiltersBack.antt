-- Filters that are written are read back.
use Rattle.std.proofs.Common.{◌≡◌, ◌<◌, ◌≤◌, ◌+◌, ◌*◌, ◌/◌, ◌%◌, ℕ, suc, Bool, true, false, ◌&&◌, ◌||◌, List, [], ◌∷◌, ◌++◌, length, take, drop, nat_eq, nat_lt, slice_index, length-append, append_assoc, cond, Some, None, option_map, sym, ◌∙◌, ap, arith, refl}
use Rattle.std.specs.List.{list_all}
use Rattle.std.proofs.lemmas.Bool.Decides.{nat_tests}
use Rattle.std.proofs.lemmas.Grind.{common_steps}
use Rattle.nas_qos.specs.Filters.{PacketFilter, filter_before, filter_octets, filter_size, filters_in, filters_octets, first_filter, has_components, is_filter, whole_filter}
use Rattle.nas_qos.specs.Operations.{is_directed}
use Rattle.nas_qos.specs.Parts.{is_parts, part_octets, parts_in, parts_octets}
use Rattle.nas_qos.specs.declared.part.Part.{Part}
use Rattle.nas_qos.proofs.PartsBack.{part_some, parts_back}
use Rattle.nas_qos.proofs.TurnsBack.{both}

record FilterFacts (filter : PacketFilter) : Type 0 where
  id_is : filter.id < 16
  direction_is : filter.direction < 4
  parts_are : is_parts filter.parts ≡ true
  has : has_components filter.direction filter.parts ≡ true

four : (a b c d : Bool) → (a && b && c && d) ≡ true → (a ≡ true) × (b ≡ true) × (c ≡ true) × (d ≡ true)
four a b c d h = (grind (arith, h), grind (arith, h), grind (arith, h), grind (arith, h))

less : (a b : ℕ) → nat_lt a b ≡ true → a < b
less a b h = grind (arith, nat_tests, h)

filter_facts : (filter : PacketFilter) → is_filter filter ≡ true → FilterFacts filter
filter_facts filter h =
    let parts = four (nat_lt filter.id 16) (nat_lt filter.direction 4) (is_parts filter.parts) (has_components filter.direction filter.parts) h in
    record { id_is = less filter.id 16 parts.0; direction_is = less filter.direction 4 parts.1; parts_are = parts.2; has = parts.3 }

no_parts : (direction : ℕ) (parts : List Part) → has_components direction parts ≡ true → nat_eq direction 0 ≡ true → parts ≡ []
no_parts direction [] h none = refl
no_parts direction (part ∷ parts) h none = absurd (grind (arith, nat_tests, h, none))

some_octets : (direction : ℕ) (parts : List Part) → has_components direction parts ≡ true → nat_eq direction 0 ≡ false → nat_eq (length (parts_octets parts)) 0 ≡ false
some_octets direction [] h some = absurd (grind (arith, nat_tests, h, some))
some_octets direction (part ∷ parts) h some =
    let more : 0 < length (parts_octets (part ∷ parts)) = omega (arith, length-append (part_octets part) (parts_octets parts), part_some part) in grind (arith, nat_tests, more)

-- a filter in operation 5
named_found : (filter : PacketFilter) (rest : List ℕ) → FilterFacts filter → nat_eq filter.direction 0 ≡ true
    → Some (record { id = filter.id % 16; direction = 0; parts = [] }) ≡ Some filter
named_found filter rest facts none =
    let id : filter.id % 16 ≡ filter.id = omega (arith, facts.id_is) in
    let direction : 0 ≡ filter.direction = grind (arith, nat_tests, none) in
    let parts : [] ≡ filter.parts = sym (no_parts filter.direction filter.parts facts.has none) in
    ap (λ (n : ℕ). Some (record { id = n; direction = 0; parts = [] })) id
    ∙ ap (λ (n : ℕ). Some (record { id = filter.id; direction = n; parts = [] })) direction
    ∙ ap (λ (ps : List Part). Some (record { id = filter.id; direction = filter.direction; parts = ps })) parts

-- a filter in another operation
whole_found : (filter : PacketFilter) → FilterFacts filter → nat_eq filter.direction 0 ≡ false
    → whole_filter (16 * filter.direction + filter.id) (parts_octets filter.parts) ≡ Some filter
whole_found filter facts some =
    let octet : ℕ = 16 * filter.direction + filter.id in
    let direction : octet / 16 % 4 ≡ filter.direction = omega (arith, facts.id_is, facts.direction_is) in
    let id : octet % 16 ≡ filter.id = omega (arith, facts.id_is) in
    let size = some_octets filter.direction filter.parts facts.has some in
    let right : (nat_eq (octet / 16 % 4) 0 || nat_eq (length (parts_octets filter.parts)) 0) ≡ false =
    ap (λ (n : ℕ). nat_eq n 0 || nat_eq (length (parts_octets filter.parts)) 0) direction ∙ grind (arith, some, size) in
    ap (λ (b : Bool). cond b None (option_map (λ parts. record { id = octet % 16; direction = octet / 16 % 4; parts = parts }) (parts_in (parts_octets filter.parts)))) right
    ∙ ap (option_map (λ parts. record { id = octet % 16; direction = octet / 16 % 4; parts = parts })) (parts_back filter.parts facts.parts_are)
    ∙ ap (λ (n : ℕ). Some (record { id = n; direction = octet / 16 % 4; parts = filter.parts })) id
    ∙ ap (λ (n : ℕ). Some (record { id = filter.id; direction = n; parts = filter.parts })) direction

enough : (size : ℕ) (octets : List ℕ) → size ≤ length octets → nat_lt (length octets) size ≡ false
enough size octets h = grind (arith, nat_tests, h)

-- what stands first where a filter and other octets are written
pub record FilterBack (code : ℕ) (filter : PacketFilter) (rest : List ℕ) : Type 0 where
  pub found : first_filter code (filter_octets code filter ++ rest) ≡ Some filter
  pub sized : filter_size code (filter_octets code filter ++ rest) ≡ length (filter_octets code filter)

pub filter_back : (code : ℕ) (filter : PacketFilter) (rest : List ℕ) → is_filter filter ≡ true → is_directed code filter ≡ true → FilterBack code filter rest
filter_back code filter rest good directed = record { found = found_is (nat_eq code 5) directed; sized = sized_is (nat_eq code 5) } where
  facts : FilterFacts filter
  facts = filter_facts filter good

  octets : List ℕ
  octets = parts_octets filter.parts

  octet : ℕ
  octet = 16 * filter.direction + filter.id

  written : Bool → List ℕ
  written b = cond b (filter.id ∷ []) (octet ∷ length octets ∷ octets)

  sized_is : (b : Bool) → cond b 1 (2 + slice_index (cond b (filter.id ∷ []) (octet ∷ length octets ∷ octets) ++ rest) 1) ≡ length (cond b (filter.id ∷ []) (octet ∷ length octets ∷ octets))
  sized_is true = refl
  sized_is false = omega arith

  found_is : (b : Bool) → cond b (nat_eq filter.direction 0) (nat_lt 0 filter.direction) ≡ true
      → cond (nat_lt (length (cond b (filter.id ∷ []) (octet ∷ length octets ∷ octets) ++ rest)) (cond b 1 (2 + slice_index (cond b (filter.id ∷ []) (octet ∷ length octets ∷ octets) ++ rest) 1)))
      None
      (cond b (Some (record { id = slice_index (cond b (filter.id ∷ []) (octet ∷ length octets ∷ octets) ++ rest) 0 % 16; direction = 0; parts = [] }))
      (whole_filter (slice_index (cond b (filter.id ∷ []) (octet ∷ length octets ∷ octets) ++ rest) 0)
      (take (slice_index (cond b (filter.id ∷ []) (octet ∷ length octets ∷ octets) ++ rest) 1) (drop 2 (cond b (filter.id ∷ []) (octet ∷ length octets ∷ octets) ++ rest)))))
      ≡ Some filter
  found_is true none =
      ap (λ (b : Bool). cond b None (Some (record { id = filter.id % 16; direction = 0; parts = [] }))) (enough 1 (filter.id ∷ rest) (omega arith))
      ∙ named_found filter rest facts none
  found_is false some =
      let fits : 2 + length octets ≤ length (octet ∷ length octets ∷ (octets ++ rest)) = omega (arith, length-append octets rest) in
      let front : take (length octets) (octets ++ rest) ≡ octets = grind (arith, common_steps) in
      let nonzero : nat_eq filter.direction 0 ≡ false = grind (arith, nat_tests, some) in
      ap (λ (b : Bool). cond b None (whole_filter octet (take (length octets) (octets ++ rest)))) (enough (2 + length octets) (octet ∷ length octets ∷ (octets ++ rest)) fits)
      ∙ ap (whole_filter octet) front
      ∙ whole_found filter facts nonzero

-- so many filters and other octets
pub filters_back : (code : ℕ) (filters : List PacketFilter) (rest : List ℕ) → list_all is_filter filters ≡ true → list_all (is_directed code) filters ≡ true
    → filters_in (length filters) code (filters_octets code filters ++ rest) ≡ Some (filters, length (filters_octets code filters))
filters_back code [] rest good directed = refl
filters_back code (filter ∷ filters) rest good directed =
    let a = both (is_filter filter) (list_all is_filter filters) good in
    let b = both (is_directed code filter) (list_all (is_directed code) filters) directed in
    let more : List ℕ = filters_octets code filters in
    let one = filter_back code filter (more ++ rest) a.0 b.0 in
    let whole : (filter_octets code filter ++ more) ++ rest ≡ filter_octets code filter ++ (more ++ rest) = append_assoc (filter_octets code filter) more rest in
    let left : drop (filter_size code (filter_octets code filter ++ (more ++ rest))) (filter_octets code filter ++ (more ++ rest)) ≡ more ++ rest = rw one.sized (grind (arith, common_steps)) in
    let tail = filters_back code filters rest a.1 b.1 in
    ap (filters_in (suc (length filters)) code) whole
    ∙ ap (λ x. filter_before x (filter_size code (filter_octets code filter ++ (more ++ rest))) (filters_in (length filters) code (drop (filter_size code (filter_octets code filter ++ (more ++ rest))) (filter_octets code filter ++ (more ++ rest))))) one.found
    ∙ ap (λ os. filter_before (Some filter) (filter_size code (filter_octets code filter ++ (more ++ rest))) (filters_in (length filters) code os)) left
    ∙ ap (λ x. filter_before (Some filter) (filter_size code (filter_octets code filter ++ (more ++ rest))) x) tail
    ∙ ap (λ (n : ℕ). Some (filter ∷ filters, n + length more)) one.sized
    ∙ ap (λ (n : ℕ). Some (filter ∷ filters, n)) (sym (length-append (filter_octets code filter) more))
