-- Reading filters one after the other.
use Rattle.std.proofs.Common.{◌≡◌, ◌<◌, ◌≤◌, ◌+◌, ◌-◌, ◌*◌, ◌/◌, ◌%◌, ◌&&◌, ◌||◌, ℕ, suc, Bool, true, false, cond, nat_eq, nat_le, nat_lt, List, [], ◌∷◌, ◌++◌, length, take, drop, get_or, length-drop, sym, ◌∙◌, Option, Some, None, option_map, Result, Ok, Err, ap, arith, refl}
use Rattle.std.specs.List.{list_all}
use Rattle.std.proofs.lemmas.Bool.{and_from, and_parts, cond-false, cond-true, eqb-true, eq-eqb, le-leb, le-ltb, lt-ltb, ne_eqb, or_from}
use Rattle.std.proofs.lemmas.Bool.Decides.{nat_tests}
use Rattle.std.proofs.lemmas.Grind.{common_steps}
use Rattle.nas_qos.specs.Filters.{PacketFilter, differing, filter_before, filter_octets, filter_size, filters_in, filters_octets, first_filter, has_components, ids_differ, is_filter, is_filters, whole_filter}
use Rattle.nas_qos.specs.Operations.{is_directed}
use Rattle.nas_qos.specs.Parts.{is_parts, parts_in, parts_octets}
use Rattle.nas_qos.specs.Ranges.{are_filters_of, is_filter_of, is_whole}
use Rattle.nas_qos.specs.Reads.{Finds}
use Rattle.nas_qos.specs.declared.part.Part.{Part}
use Rattle.nas_qos.specs.declared.refusals.Unread.{Unread}
use Rattle.nas_qos.specs.declared.refusals.Unread.TheVariants.{Wrong, Memory}
use Rattle.nas_qos.proofs.TurnsReading.{all_octets-append}

-- filters of so many octets before others
abbrev pub filters_before : List PacketFilter → ℕ → Option (List PacketFilter × ℕ) → Option (List PacketFilter × ℕ)
filters_before filters size None = None
filters_before filters size (Some more) = Some (filters ++ more.0, size + more.1)

filters_before-one : (filters : List PacketFilter) (size : ℕ) (filter : PacketFilter) (n : ℕ) (more : Option (List PacketFilter × ℕ))
    → filters_before (filters ++ filter ∷ []) (size + n) more ≡ filters_before filters size (filter_before (Some filter) n more)
filters_before-one filters size filter n None = refl
filters_before-one filters size filter n (Some more) =
    let both : (filters ++ filter ∷ []) ++ more.0 ≡ filters ++ (filter ∷ more.0) = grind (arith, common_steps) in
    let sum : size + n + more.1 ≡ size + (n + more.1) = omega arith in
    ap (λ (fs : List PacketFilter). Some (fs, size + n + more.1)) both ∙ ap (λ (k : ℕ). Some (filters ++ (filter ∷ more.0), k)) sum

pub filters_before-none : (more : Option (List PacketFilter × ℕ)) → filters_before [] 0 more ≡ more
filters_before-none None = refl
filters_before-none (Some more) =
    let sum : 0 + more.1 ≡ more.1 = omega arith in ap (λ (k : ℕ). Some (more.0, k)) sum

-- one filter more
pub next_filter : (number code : ℕ) (octets : List ℕ) (i : ℕ) (filters : List PacketFilter) (size : ℕ) (filter : PacketFilter)
    → i + 1 ≤ number
    → first_filter code (drop size octets) ≡ Some filter
    → filters_before filters size (filters_in (number - i) code (drop size octets)) ≡ filters_in number code octets
    → filters_before (filters ++ filter ∷ []) (size + filter_size code (drop size octets))
    (filters_in (number - (i + 1)) code (drop (size + filter_size code (drop size octets)) octets)) ≡ filters_in number code octets
next_filter number code octets i filters size filter more read told =
    let n : ℕ = filter_size code (drop size octets) in
    let less : number - i ≡ suc (number - (i + 1)) = omega arith in
    let further : drop (size + n) octets ≡ drop n (drop size octets) = grind (arith, common_steps) in
    filters_before-one filters size filter n (filters_in (number - (i + 1)) code (drop (size + n) octets))
    ∙ ap (λ (os : List ℕ). filters_before filters size (filter_before (Some filter) n (filters_in (number - (i + 1)) code os))) further
    ∙ ap (λ x. filters_before filters size (filter_before x n (filters_in (number - (i + 1)) code (drop n (drop size octets))))) (sym read)
    ∙ ap (λ (k : ℕ). filters_before filters size (filters_in k code (drop size octets))) (sym less)
    ∙ told

-- a filter that is wrong
pub wrong_filter : (number code : ℕ) (octets : List ℕ) (i : ℕ) (filters : List PacketFilter) (size : ℕ)
    → i + 1 ≤ number
    → first_filter code (drop size octets) ≡ None
    → filters_before filters size (filters_in (number - i) code (drop size octets)) ≡ filters_in number code octets
    → filters_in number code octets ≡ None
wrong_filter number code octets i filters size more read told =
    let n : ℕ = filter_size code (drop size octets) in
    let less : number - i ≡ suc (number - (i + 1)) = omega arith in
    sym told
    ∙ ap (λ (k : ℕ). filters_before filters size (filters_in k code (drop size octets))) less
    ∙ ap (λ x. filters_before filters size (filter_before x n (filters_in (number - (i + 1)) code (drop n (drop size octets))))) read

-- all filters were read
pub all_filters : (number code : ℕ) (octets : List ℕ) (filters : List PacketFilter) (size : ℕ)
    → filters_before filters size (filters_in (number - number) code (drop size octets)) ≡ filters_in number code octets
    → filters_in number code octets ≡ Some (filters, size)
all_filters number code octets filters size told =
    let none : number - number ≡ 0 = omega arith in
    let same : filters ++ [] ≡ filters = grind (arith, common_steps) in
    let sum : size + 0 ≡ size = omega arith in
    sym told ∙ ap (λ (k : ℕ). filters_before filters size (filters_in k code (drop size octets))) none
    ∙ ap (λ (fs : List PacketFilter). Some (fs, size + 0)) same ∙ ap (λ (k : ℕ). Some (filters, k)) sum

components : (direction : ℕ) (parts : List Part) → 0 < direction → 0 < length (parts_octets parts) → has_components direction parts ≡ true
components direction [] some several = absurd (omega (arith, several))
components direction (part ∷ parts) some several = grind (arith, nat_tests, some)

-- a filter of components that were read
pub made_filter : (id direction : ℕ) (contents : List ℕ) (parts : List Part) → id < 16 → 0 < direction → direction < 4 → 0 < length contents
    → (is_parts parts && nat_eq (length (parts_octets parts)) (length contents)) ≡ true
    → is_filter (record { id = id; direction = direction; parts = parts }) ≡ true
made_filter id direction contents parts id_fits some fits there read =
    let facts = and_parts (is_parts parts) (nat_eq (length (parts_octets parts)) (length contents)) read in
    let several : 0 < length (parts_octets parts) = omega (arith, eqb-true (length (parts_octets parts)) (length contents) facts.1, there) in
    and_from (nat_lt id 16 && nat_lt direction 4 && is_parts parts) (has_components direction parts)
    (and_from (nat_lt id 16 && nat_lt direction 4) (is_parts parts)
    (and_from (nat_lt id 16) (nat_lt direction 4) (lt-ltb id 16 id_fits) (lt-ltb direction 4 fits)) facts.0)
    (components direction parts some several)

pub whole_read : (first : ℕ) (contents : List ℕ) (parts : List Part) → 0 < first / 16 % 4 → 0 < length contents
    → parts_in contents ≡ Some parts
    → (is_parts parts && nat_eq (length (parts_octets parts)) (length contents)) ≡ true
    → (whole_filter first contents ≡ Some (record { id = first % 16; direction = first / 16 % 4; parts = parts }))
    × (is_whole contents (record { id = first % 16; direction = first / 16 % 4; parts = parts }) ≡ true)
whole_read first contents parts some there read good =
    let Made : Option (List Part) → Option PacketFilter = option_map (λ ps. record { id = first % 16; direction = first / 16 % 4; parts = ps }) in
    let right : (nat_eq (first / 16 % 4) 0 || nat_eq (length contents) 0) ≡ false =
    or_from (nat_eq (first / 16 % 4) 0) (nat_eq (length contents) 0) (grind (arith, nat_tests, some)) (grind (arith, nat_tests, there)) in
    let filter = made_filter (first % 16) (first / 16 % 4) contents parts (omega arith) some (omega arith) there good in (
      ap (λ (b : Bool). cond b None (Made (parts_in contents))) right ∙ ap Made read,
      and_from (is_filter (record { id = first % 16; direction = first / 16 % 4; parts = parts }) && nat_le 1 (first / 16 % 4)) (nat_eq (length (parts_octets parts)) (length contents))
          (and_from (is_filter (record { id = first % 16; direction = first / 16 % 4; parts = parts })) (nat_le 1 (first / 16 % 4)) filter (le-leb 1 (first / 16 % 4) (omega (arith, some))))
          (and_parts (is_parts parts) (nat_eq (length (parts_octets parts)) (length contents)) good).1,
    )

not_whole : (first : ℕ) (contents : List ℕ) → parts_in contents ≡ None → whole_filter first contents ≡ None
not_whole first contents none = go (nat_eq (first / 16 % 4) 0 || nat_eq (length contents) 0) where
  go : (b : Bool) → cond {A = Option PacketFilter} b None (option_map (λ ps. record { id = first % 16; direction = first / 16 % 4; parts = ps }) (parts_in contents)) ≡ None
  go true = refl
  go false =
      let Made : Option (List Part) → Option PacketFilter = option_map (λ ps. record { id = first % 16; direction = first / 16 % 4; parts = ps }) in ap Made none

-- no filter is read where its components aren't
pub none_whole : (first : ℕ) (contents : List ℕ) (refusal : Unread)
    → Finds (λ parts. is_parts parts && nat_eq (length (parts_octets parts)) (length contents)) (Err refusal) (parts_in contents)
    → Finds (is_whole contents) (Err refusal) (whole_filter first contents)
none_whole first contents Wrong none = not_whole first contents none
none_whole first contents Memory none = tt

-- the filter that stands first: it is cut
pub first_cut : (code : ℕ) (octets : List ℕ) (size : ℕ) → size ≡ filter_size code octets → length octets < size → first_filter code octets ≡ None
first_cut code octets size sized cut =
    cond-true (nat_lt (length octets) (filter_size code octets)) None _ (lt-ltb (length octets) (filter_size code octets) (omega (arith, sized, cut)))

-- it is an identifier alone
pub named_is_filter : (octet : ℕ) (parts : List Part) → parts ≡ [] → is_filter (record { id = octet % 16; direction = 0; parts = parts }) ≡ true
named_is_filter octet parts none = rw none (good (octet % 16) (omega arith)) where
  good : (id : ℕ) → id < 16 → is_filter (record { id = id; direction = 0; parts = [] }) ≡ true
  good id fits =
      and_from (nat_lt id 16 && nat_lt 0 4 && is_parts []) (has_components 0 [])
      (and_from (nat_lt id 16 && nat_lt 0 4) (is_parts []) (and_from (nat_lt id 16) (nat_lt 0 4) (lt-ltb id 16 fits) refl) refl) refl

named_five : (octets : List ℕ) → 1 ≤ length octets
    → (first_filter 5 octets ≡ Some (record { id = get_or octets 0 0 % 16; direction = 0; parts = [] }))
    × (is_filter_of 5 octets (record { id = get_or octets 0 0 % 16; direction = 0; parts = [] }) ≡ true)
named_five octets there =
    let one : PacketFilter = record { id = get_or octets 0 0 % 16; direction = 0; parts = [] } in
    let good = named_is_filter (get_or octets 0 0) [] refl in (
      ap (λ (b : Bool). cond {A = Option PacketFilter} b None (Some one)) (le-ltb (length octets) 1 there),
      and_from (is_filter one && is_directed 5 one && nat_eq (length (filter_octets 5 one)) (filter_size 5 octets)) (nat_le (filter_size 5 octets) (length octets))
          (and_from (is_filter one && is_directed 5 one) (nat_eq (length (filter_octets 5 one)) (filter_size 5 octets)) (and_from (is_filter one) (is_directed 5 one) good refl) refl)
          (le-leb 1 (length octets) there),
    )

pub named_first : (code : ℕ) (octets : List ℕ) (size : ℕ) (parts : List Part) → code ≡ 5 → size ≡ filter_size code octets → size ≤ length octets → parts ≡ []
    → (first_filter code octets ≡ Some (record { id = get_or octets 0 0 % 16; direction = 0; parts = parts }))
    × (is_filter_of code octets (record { id = get_or octets 0 0 % 16; direction = 0; parts = parts }) ≡ true)
named_first code octets size parts five sized there none =
    let one : size ≡ 1 = sized ∙ ap (λ (n : ℕ). filter_size n octets) five in rw (five, none) (named_five octets (omega (arith, one, there)))

-- it has a length and components
other_first : (code : ℕ) (octets contents : List ℕ) (size : ℕ) → nat_eq code 5 ≡ false → size ≡ filter_size code octets → size ≤ length octets
    → contents ≡ take (get_or octets 1 0) (drop 2 octets) → first_filter code octets ≡ whole_filter (get_or octets 0 0) contents
other_first code octets contents size other sized there is =
    cond-false (nat_lt (length octets) (filter_size code octets)) None _ (le-ltb (length octets) (filter_size code octets) (omega (arith, sized, there)))
    ∙ cond-false (nat_eq code 5) _ _ other
    ∙ ap (whole_filter (get_or octets 0 0)) (sym is)

other_sized : (code : ℕ) (octets : List ℕ) (filter : PacketFilter) → nat_eq code 5 ≡ false → length (parts_octets filter.parts) ≡ get_or octets 1 0
    → length (filter_octets code filter) ≡ filter_size code octets
other_sized code octets filter other same =
    ap (λ (b : Bool). length (cond b (filter.id ∷ []) ((16 * filter.direction + filter.id) ∷ length (parts_octets filter.parts) ∷ parts_octets filter.parts))) other
    ∙ omega (arith, same)
    ∙ ap (λ (b : Bool). cond b 1 (2 + get_or octets 1 0)) (sym other)

pub other_read : (code : ℕ) (octets contents : List ℕ) (size : ℕ) (result : Result PacketFilter Unread) → (code ≡ 5 → ⊥) → size ≡ filter_size code octets → size ≤ length octets
    → contents ≡ take (get_or octets 1 0) (drop 2 octets)
    → Finds (is_whole contents) result (whole_filter (get_or octets 0 0) contents)
    → Finds (is_filter_of code octets) result (first_filter code octets)
other_read code octets contents size (Ok filter) not_five sized there is read =
    let other = ne_eqb code 5 not_five in
    let last = and_parts (is_filter filter && nat_le 1 filter.direction) (nat_eq (length (parts_octets filter.parts)) (length contents)) read.1 in
    let first = and_parts (is_filter filter) (nat_le 1 filter.direction) last.0 in
    let width : size ≡ 2 + get_or octets 1 0 = sized ∙ ap (λ (b : Bool). cond b 1 (2 + get_or octets 1 0)) other in
    let long : length contents ≡ get_or octets 1 0 = grind (arith, common_steps, is, width, there) in
    let spelt = other_sized code octets filter other (eqb-true (length (parts_octets filter.parts)) (length contents) last.1 ∙ long) in
    let directed : is_directed code filter ≡ true = ap (λ (b : Bool). cond b (nat_eq filter.direction 0) (nat_lt 0 filter.direction)) other ∙ first.1 in (
      other_first code octets contents size other sized there is ∙ read.0,
      and_from (is_filter filter && is_directed code filter && nat_eq (length (filter_octets code filter)) (filter_size code octets)) (nat_le (filter_size code octets) (length octets))
          (and_from (is_filter filter && is_directed code filter) (nat_eq (length (filter_octets code filter)) (filter_size code octets))
          (and_from (is_filter filter) (is_directed code filter) first.0 directed) (eq-eqb (length (filter_octets code filter)) (filter_size code octets) spelt))
          (le-leb (filter_size code octets) (length octets) (omega (arith, sized, there))),
    )
other_read code octets contents size (Err Wrong) not_five sized there is read =
    other_first code octets contents size (ne_eqb code 5 not_five) sized there is ∙ read
other_read code octets contents size (Err Memory) not_five sized there is read = tt

-- what is kept of the filters read so far
pub record FiltersRead (number code : ℕ) (octets : List ℕ) (done : ℕ) (filters : List PacketFilter) (size : ℕ) : Type 0 where
  pub within : size ≤ length octets
  pub told : filters_before filters size (filters_in (number - done) code (drop size octets)) ≡ filters_in number code octets
  pub number_is : length filters ≡ done
  pub sized : length (filters_octets code filters) ≡ size
  pub whole : list_all is_filter filters ≡ true
  pub directed : list_all (is_directed code) filters ≡ true

pub no_filters : (number code : ℕ) (octets : List ℕ) (filters : List PacketFilter) → filters ≡ [] → FiltersRead number code octets 0 filters 0
no_filters number code octets filters none = rw none start where
  start : FiltersRead number code octets 0 [] 0
  start =
      let left : number - 0 ≡ number = omega arith in
      record {
        within = omega arith;
        told = filters_before-none (filters_in (number - 0) code octets) ∙ ap (λ (n : ℕ). filters_in n code octets) left;
        number_is = refl;
        sized = refl;
        whole = refl;
        directed = refl;
      }

-- all filters were read: where an identifier occurs twice they are wrong
pub filters_read : (number code : ℕ) (octets : List ℕ) (done : ℕ) (filters : List PacketFilter) (size : ℕ) → FiltersRead number code octets done filters size
    → number ≤ done → done ≤ number → filters_in number code octets ≡ Some (filters, size)
filters_read number code octets done filters size so enough few =
    let same : done ≡ number = omega arith in
    all_filters number code octets filters size (ap (λ (n : ℕ). filters_before filters size (filters_in (number - n) code (drop size octets))) (sym same) ∙ so.told)

pub filters_twice : (number code : ℕ) (octets : List ℕ) (done : ℕ) (filters : List PacketFilter) (size : ℕ) → FiltersRead number code octets done filters size
    → number ≤ done → done ≤ number → ids_differ filters ≡ false → differing (filters_in number code octets) ≡ None
filters_twice number code octets done filters size so enough few twice =
    ap differing (filters_read number code octets done filters size so enough few)
    ∙ ap (λ (b : Bool). cond {A = Option (List PacketFilter × ℕ)} b (Some (filters, size)) None) twice

pub filters_once : (number code : ℕ) (octets : List ℕ) (done : ℕ) (filters : List PacketFilter) (size : ℕ) → FiltersRead number code octets done filters size
    → number ≤ done → done ≤ number → ids_differ filters ≡ true
    → (differing (filters_in number code octets) ≡ Some (filters, size)) × (are_filters_of number code octets (filters, size) ≡ true)
filters_once number code octets done filters size so enough few once =
    let many : length filters ≡ number = omega (arith, so.number_is) in (
      ap differing (filters_read number code octets done filters size so enough few)
          ∙ ap (λ (b : Bool). cond {A = Option (List PacketFilter × ℕ)} b (Some (filters, size)) None) once,
      and_from (is_filters filters && list_all (is_directed code) filters && nat_eq (length filters) number && nat_eq (length (filters_octets code filters)) size) (nat_le size (length octets))
          (and_from (is_filters filters && list_all (is_directed code) filters && nat_eq (length filters) number) (nat_eq (length (filters_octets code filters)) size)
          (and_from (is_filters filters && list_all (is_directed code) filters) (nat_eq (length filters) number)
          (and_from (is_filters filters) (list_all (is_directed code) filters)
          (and_from (list_all is_filter filters) (ids_differ filters) so.whole once) so.directed)
          (eq-eqb (length filters) number many)) (eq-eqb (length (filters_octets code filters)) size so.sized)) (le-leb size (length octets) so.within),
    )

filter_parts : (code : ℕ) (octets : List ℕ) (filter : PacketFilter) → is_filter_of code octets filter ≡ true
    → (is_filter filter ≡ true) × (is_directed code filter ≡ true) × (length (filter_octets code filter) ≡ filter_size code octets) × (filter_size code octets ≤ length octets)
filter_parts code octets filter h =
    (grind (arith, nat_tests, h), grind (arith, nat_tests, h), grind (arith, nat_tests, h), grind (arith, nat_tests, h))

pub more_read : (number code : ℕ) (octets : List ℕ) (done : ℕ) (filters : List PacketFilter) (size : ℕ) (filter : PacketFilter)
    → FiltersRead number code octets done filters size
    → done + 1 ≤ number
    → Finds (is_filter_of code (drop size octets)) (Ok filter) (first_filter code (drop size octets))
    → FiltersRead number code octets (done + 1) (filters ++ filter ∷ []) (size + filter_size code (drop size octets))
more_read number code octets done filters size filter so more read =
    let parts = filter_parts code (drop size octets) filter read.1 in
    let left : length (drop size octets) + size ≡ length octets = omega (arith, length-drop {A = ℕ} size octets, so.within) in
    let spelt : length (filters_octets code (filters ++ filter ∷ [])) ≡ length (filters_octets code filters) + length (filter_octets code filter) =
    ap length (all_octets-append (filter_octets code) filters (filter ∷ [])) ∙ grind (arith, common_steps) in
    let one : length (filters ++ filter ∷ []) ≡ length filters + 1 = grind (arith, common_steps) in
    record {
      within = omega (arith, left, parts.3);
      told = next_filter number code octets done filters size filter more read.0 so.told;
      number_is = omega (arith, one, so.number_is);
      sized = omega (arith, spelt, so.sized, parts.2);
      whole = grind (arith, common_steps, so.whole, parts.0);
      directed = grind (arith, common_steps, so.directed, parts.1);
    }

-- no list of filters is read where one of them isn't
pub none_read : (number code : ℕ) (octets : List ℕ) (done : ℕ) (filters : List PacketFilter) (size : ℕ) (refusal : Unread)
    → FiltersRead number code octets done filters size
    → done + 1 ≤ number
    → Finds (is_filter_of code (drop size octets)) (Err refusal) (first_filter code (drop size octets))
    → Finds (are_filters_of number code octets) (Err refusal) (differing (filters_in number code octets))
none_read number code octets done filters size Wrong so more read =
    ap differing (wrong_filter number code octets done filters size more read so.told)
none_read number code octets done filters size Memory so more read = tt
