-- Reading slices one after the other.
use Rattle.std.proofs.Common.{◌≡◌, ◌<◌, ◌≤◌, ◌+◌, ◌-◌, ◌⊎◌, inl, inr, ℕ, zero, suc, Bool, true, false, ◌&&◌, List, [], ◌∷◌, ◌++◌, length, take, drop, get_or, length-drop, sym, ◌∙◌, nat_lt, nat_le, Option, Some, None, is_some, cond, ap, subst, arith, refl}
use Rattle.std.specs.List.{list_all}
use Rattle.std.proofs.lemmas.Bool.Decides.{nat_tests}
use Rattle.std.proofs.lemmas.Grind.{common_steps}
use Rattle.nas_elements.specs.Nssai.{before, first_in, nssai_in, slices_front, slices_in, starts_slice}
use Rattle.nas_elements.specs.Reads.{IsWrongAt}
use Rattle.nas_elements.specs.Slice.{is_slice, is_slice_size, is_sst, is_sst_and_sd, slice_in}
use Rattle.nas_elements.specs.declared.slice.Slice.{Slice}
use Rattle.nas_elements.proofs.NssaiFronts.{front_cut, front_slice, slice_there, wrong_nssai}

-- slices before others, where these are all there
abbrev pub all_before : List Slice → Option (List Slice) → Option (List Slice)
all_before slices None = None
all_before slices (Some more) = Some (slices ++ more)

all_before-one : (slices : List Slice) (slice : Slice) (more : Option (List Slice)) → all_before (slices ++ slice ∷ []) more ≡ all_before slices (before (Some slice) more)
all_before-one slices slice None = refl
all_before-one slices slice (Some more) = grind (arith, common_steps)

-- these slices were read, and the rest is left
pub record SoFar (octets : List ℕ) (slices : List Slice) (rest : List ℕ) : Type 0 where
  pub most : ℕ
  pub room : length slices + most ≡ 8
  pub shorter : length rest ≤ length octets
  pub begun : length slices ≡ 0 → length rest ≡ length octets
  pub whole : list_all is_slice slices ≡ true
  pub told : all_before slices (slices_in most rest) ≡ slices_in 8 octets
  pub front : length octets - length rest + slices_front most 0 rest ≡ slices_front 8 0 octets

pub nothing_read : (octets : List ℕ) → SoFar octets [] octets
nothing_read octets = record {
  most = 8;
  room = refl;
  shorter = omega arith;
  begun = λ h. refl;
  whole = refl;
  told = go (slices_in 8 octets);
  front = omega arith;
} where
  go : (read : Option (List Slice)) → all_before [] read ≡ read
  go None = refl
  go (Some slices) = refl

-- a slice that was read has octets
pub slice_whole : (octets : List ℕ) (slice : Slice) → slice_in octets ≡ Some slice → is_slice slice ≡ true
slice_whole octets slice read = go (is_sst (length octets)) (is_sst_and_sd (length octets)) refl read where
  go : (b c : Bool) → is_sst_and_sd (length octets) ≡ c
      → cond b (Some (record { sst = get_or octets 0 0; sd = None })) (cond c (Some (record { sst = get_or octets 0 0; sd = Some (take 3 (drop 1 octets)) })) None) ≡ Some slice
      → is_slice slice ≡ true
  go true c size h = grind (arith, h)
  go false true size h = grind (arith, nat_tests, common_steps, size, h)
  go false false size h = cc

-- what was read of the slice that stands first
first_read : (size : ℕ) (os : List ℕ) (slice : Slice) → first_in (size ∷ os) ≡ Some slice → (size ≤ length os) × (is_slice slice ≡ true)
first_read size os slice read = go (nat_le size (length os)) refl read where
  go : (b : Bool) → nat_le size (length os) ≡ b → cond b (slice_in (take size os)) None ≡ Some slice → (size ≤ length os) × (is_slice slice ≡ true)
  go true fits h = (grind (arith, nat_tests), slice_whole (take size os) slice h)
  go false fits h = cc

-- one slice more
pub one_read : (octets : List ℕ) (slices : List Slice) (size : ℕ) (os : List ℕ) (slice : Slice) → SoFar octets slices (size ∷ os) → length slices < 8
    → is_slice_size size ≡ true → first_in (size ∷ os) ≡ Some slice → SoFar octets (slices ++ slice ∷ []) (drop size os)
one_read octets slices size os slice so few right read = go so.most so.room so.told so.front where
  go : (most : ℕ) → length slices + most ≡ 8 → all_before slices (slices_in most (size ∷ os)) ≡ slices_in 8 octets
      → length octets - length (size ∷ os) + slices_front most 0 (size ∷ os) ≡ slices_front 8 0 octets → SoFar octets (slices ++ slice ∷ []) (drop size os)
  go zero room told front = absurd (omega arith)
  go (suc most) room told front =
      let first : (size ≤ length os) × (is_slice slice ≡ true) = first_read size os slice read in
      let longer : length (slices ++ slice ∷ []) ≡ suc (length slices) = grind (arith, common_steps) in
      let shorter : length (drop size os) + size ≡ length os = omega (arith, length-drop {A = ℕ} size os, first.0) in
      record {
        most = most;
        room = omega (arith, longer);
        shorter = omega (arith, shorter);
        begun = λ h. absurd (omega (arith, longer, h));
        whole = grind (arith, common_steps, first.1);
        told = all_before-one slices slice (slices_in most (drop size os)) ∙ (ap (λ x. all_before slices (before x (slices_in most (drop size os)))) (sym read) ∙ told);
        front = omega (arith, shorter, front, front_slice most size os right first.0, so.shorter);
      }

no_slices : (octets : List ℕ) → None ≡ slices_in 8 octets → nssai_in octets ≡ None
no_slices octets none = go (nat_lt 0 (length octets)) where
  go : (b : Bool) → cond b (slices_in 8 octets) None ≡ None
  go true = sym none
  go false = refl

no_first : (size : ℕ) (os : List ℕ) → is_slice_size size ≡ false → first_in (size ∷ os) ≡ None
no_first size os wrong = go (nat_le size (length os)) refl where
  none : (read : Option Slice) → is_some read ≡ false → read ≡ None
  none None h = refl
  none (Some slice) h = cc

  go : (b : Bool) → nat_le size (length os) ≡ b → cond b (slice_in (take size os)) None ≡ None
  go true fits =
      let there : size ≤ length os = grind (arith, nat_tests) in
      let taken : length (take size os) ≡ size = grind (arith, common_steps) in
      none (slice_in (take size os)) (slice_there (take size os) ∙ (ap (λ n. is_slice_size n) taken ∙ wrong))
  go false fits = refl

-- no slice starts where one is to
pub none_starts : (octets : List ℕ) (slices : List Slice) (size : ℕ) (os : List ℕ) → SoFar octets slices (size ∷ os)
    → (length slices ≡ 8) ⊎ (is_slice_size size ≡ false) → (nssai_in octets ≡ None) × (slices_front 8 0 octets ≡ length octets - length (size ∷ os))
none_starts octets slices size os so wrong = go so.most so.room so.told so.front wrong where
  go : (most : ℕ) → length slices + most ≡ 8 → all_before slices (slices_in most (size ∷ os)) ≡ slices_in 8 octets
      → length octets - length (size ∷ os) + slices_front most 0 (size ∷ os) ≡ slices_front 8 0 octets
      → (length slices ≡ 8) ⊎ (is_slice_size size ≡ false) → (nssai_in octets ≡ None) × (slices_front 8 0 octets ≡ length octets - length (size ∷ os))
  go zero room told front wrong = (no_slices octets told, grind (arith, nat_tests, front))
  go (suc most) room told front (inl full) = absurd (omega arith)
  go (suc most) room told front (inr size_wrong) = (
    no_slices octets (ap (λ x. all_before slices (before x (slices_in most (drop size os)))) (sym (no_first size os size_wrong)) ∙ told),
    grind (arith, nat_tests, front, size_wrong),
  )

-- a slice is cut
pub one_cut : (octets : List ℕ) (slices : List Slice) (size : ℕ) (os : List ℕ) → SoFar octets slices (size ∷ os) → length slices < 8
    → is_slice_size size ≡ true → first_in (size ∷ os) ≡ None → (nssai_in octets ≡ None) × (slices_front 8 0 octets ≡ length octets)
one_cut octets slices size os so few right read = go so.most so.room so.told so.front where
  cut : (b : Bool) → nat_le size (length os) ≡ b → cond b (slice_in (take size os)) None ≡ None → length os ≤ size
  cut true fits h =
      let there : size ≤ length os = grind (arith, nat_tests) in
      let taken : length (take size os) ≡ size = grind (arith, common_steps) in
      let some : is_some (slice_in (take size os)) ≡ true = slice_there (take size os) ∙ (ap (λ n. is_slice_size n) taken ∙ right) in
      absurd (grind (arith, some, h))
  cut false fits h = grind (arith, nat_tests)

  go : (most : ℕ) → length slices + most ≡ 8 → all_before slices (slices_in most (size ∷ os)) ≡ slices_in 8 octets
      → length octets - length (size ∷ os) + slices_front most 0 (size ∷ os) ≡ slices_front 8 0 octets
      → (nssai_in octets ≡ None) × (slices_front 8 0 octets ≡ length octets)
  go zero room told front = absurd (omega arith)
  go (suc most) room told front =
      let less : suc most - 1 ≡ most = omega arith in
      let short : slices_front most size os ≡ length os = front_cut most size os (cut (nat_le size (length os)) refl read) in
      let all : slices_front (suc most) 0 (size ∷ os) ≡ suc (length os) = rw (right, less, short) (grind (arith, nat_tests)) in (
        no_slices octets (ap (λ x. all_before slices (before x (slices_in most (drop size os)))) (sym read) ∙ told),
        omega (arith, all, front, so.shorter),
      )

wrong_at : (octets : List ℕ) (at : ℕ) → (nssai_in octets ≡ None) × (slices_front 8 0 octets ≡ at) → (nssai_in octets ≡ None) × IsWrongAt nssai_in octets at
wrong_at octets at found = (found.0, subst (λ (n : ℕ). IsWrongAt nssai_in octets n) found.1 (wrong_nssai octets))

may_start : (most size : ℕ) → starts_slice most size ≡ true → (0 < most) × (is_slice_size size ≡ true)
may_start most size h = go (nat_lt 0 most) refl h where
  go : (b : Bool) → nat_lt 0 most ≡ b → (b && is_slice_size size) ≡ true → (0 < most) × (is_slice_size size ≡ true)
  go true some right = (grind (arith, nat_tests), right)
  go false some right = cc

may_not_start : (most size : ℕ) → starts_slice most size ≡ false → (most ≡ 0) ⊎ (is_slice_size size ≡ false)
may_not_start most size h = go (nat_lt 0 most) refl h where
  go : (b : Bool) → nat_lt 0 most ≡ b → (b && is_slice_size size) ≡ false → (most ≡ 0) ⊎ (is_slice_size size ≡ false)
  go true some wrong = inr wrong
  go false none wrong = inl (grind (arith, nat_tests))

-- the same of what is left, given by its number of octets and the first of them
pub wrong_start : (octets : List ℕ) (slices : List Slice) (rest : List ℕ) → SoFar octets slices rest → 0 < length rest
    → starts_slice (8 - length slices) (get_or rest 0 0) ≡ false → (nssai_in octets ≡ None) × IsWrongAt nssai_in octets (length octets - length rest)
wrong_start octets slices [] so some wrong = absurd (omega arith)
wrong_start octets slices (size ∷ os) so some wrong = wrong_at octets (length octets - length (size ∷ os)) (none_starts octets slices size os so (full (may_not_start (8 - length slices) size wrong)))
  where
    full : (8 - length slices ≡ 0) ⊎ (is_slice_size size ≡ false) → (length slices ≡ 8) ⊎ (is_slice_size size ≡ false)
    full (inl none) = inl (omega (arith, so.room))
    full (inr right) = inr right

pub wrong_end : (octets : List ℕ) (slices : List Slice) (rest : List ℕ) → SoFar octets slices rest → 0 < length rest
    → starts_slice (8 - length slices) (get_or rest 0 0) ≡ true → first_in rest ≡ None → (nssai_in octets ≡ None) × IsWrongAt nssai_in octets (length octets)
wrong_end octets slices [] so some right read = absurd (omega arith)
wrong_end octets slices (size ∷ os) so some right read =
    let start : (0 < 8 - length slices) × (is_slice_size size ≡ true) = may_start (8 - length slices) size right in
    wrong_at octets (length octets) (one_cut octets slices size os so (omega (arith, start.0)) start.1 read)

-- no octets are no list of slices
pub wrong_none : (octets : List ℕ) (slices : List Slice) (rest : List ℕ) → SoFar octets slices rest → length rest ≡ 0 → length slices ≡ 0
    → (nssai_in octets ≡ None) × IsWrongAt nssai_in octets 0
wrong_none [] slices rest so over none = wrong_at [] 0 (refl, refl)
wrong_none (o ∷ os) slices rest so over none = absurd (omega (arith, so.begun none))

pub next_read : (octets : List ℕ) (slices : List Slice) (rest : List ℕ) (slice : Slice) (more : List Slice) (left : List ℕ) → SoFar octets slices rest → 0 < length rest
    → starts_slice (8 - length slices) (get_or rest 0 0) ≡ true → first_in rest ≡ Some slice → more ≡ slices ++ slice ∷ [] → left ≡ drop (1 + get_or rest 0 0) rest
    → SoFar octets more left
next_read octets slices [] slice more left so some right read grown cut = absurd (omega arith)
next_read octets slices (size ∷ os) slice more left so some right read grown cut =
    let start : (0 < 8 - length slices) × (is_slice_size size ≡ true) = may_start (8 - length slices) size right in
    let next : 1 + size ≡ suc size = omega arith in
    let behind : left ≡ drop size os = cut ∙ ap (λ n. drop n (size ∷ os)) next in
    rw (grown, behind) (one_read octets slices size os slice so (omega (arith, start.0)) start.1 read)
