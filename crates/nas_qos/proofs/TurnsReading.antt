-- Reading items one after the other.
use Rattle.std.proofs.Common.{◌≡◌, ◌<◌, ◌≤◌, ◌==◌, ◌+◌, ◌-◌, ℕ, zero, suc, Bool, true, false, List, [], ◌∷◌, ◌++◌, length, drop, length-drop, append_assoc, sym, ◌∙◌, Option, Some, None, Result, Ok, Err, ap, arith, refl}
use Rattle.std.proofs.lemmas.Bool.{eqb-true}
use Rattle.std.proofs.lemmas.Bool.Decides.{nat_tests}
use Rattle.std.proofs.lemmas.Grind.{common_steps}
use Rattle.nas_qos.specs.Turns.{all_octets, before, in_turn}

-- octets that aren't empty
pub some_there : (octets : List ℕ) (empty : Bool) → empty ≡ (length octets == 0) → empty ≡ false → 0 < length octets
some_there octets empty is some = grind (arith, nat_tests, is, some)

pub none_there : (octets : List ℕ) (empty : Bool) → empty ≡ (length octets == 0) → empty ≡ true → length octets ≡ 0
none_there octets empty is none = eqb-true (length octets) 0 (sym is ∙ none)

-- fewer are left behind an item
pub less_left : (size : ℕ) (rest left : List ℕ) → 0 < size → 0 < length rest → left ≡ drop size rest → length left < length rest
less_left size rest left moves some is =
    let sizes : length left ≡ length (drop size rest) = ap length is in omega (arith, sizes, length-drop {A = ℕ} size rest, moves, some)

-- items before others, where these are all there
abbrev pub all_before : {A : Type 0} → List A → Result (List A) ℕ → Result (List A) ℕ
all_before items (Ok more) = Ok (items ++ more)
all_before items (Err at) = Err at

all_before-one : {A : Type 0} (items : List A) (item : A) (at : ℕ) (more : Result (List A) ℕ)
    → all_before (items ++ item ∷ []) more ≡ all_before items (before at (Some item) more)
all_before-one items item at (Ok more) = grind (arith, common_steps)
all_before-one items item at (Err wrong) = refl

all_before-none : {A : Type 0} (more : Result (List A) ℕ) → all_before [] more ≡ more
all_before-none (Ok more) = refl
all_before-none (Err wrong) = refl

pub all_octets-append : {A : Type 0} (spelled : A → List ℕ) (items more : List A)
    → all_octets spelled (items ++ more) ≡ all_octets spelled items ++ all_octets spelled more
all_octets-append spelled [] more = refl
all_octets-append spelled (item ∷ items) more =
    ap (λ os. spelled item ++ os) (all_octets-append spelled items more)
    ∙ sym (append_assoc (spelled item) (all_octets spelled items) (all_octets spelled more))

-- these items were read, and the rest is left
pub record Turned {A : Type 0} (first : ℕ → List ℕ → Option A) (size : List ℕ → ℕ) (spelled : A → List ℕ) (octets : List ℕ) (items : List A) (rest : List ℕ) : Type 0 where
  pub most : ℕ
  pub enough : length rest ≤ most
  pub sized : length (all_octets spelled items) + length rest ≡ length octets
  pub told : all_before items (in_turn first size most (length octets - length rest) rest) ≡ in_turn first size (length octets) 0 octets

pub nothing_read : {A : Type 0} (first : ℕ → List ℕ → Option A) (size : List ℕ → ℕ) (spelled : A → List ℕ) (octets : List ℕ) → Turned first size spelled octets [] octets
nothing_read first size spelled octets =
    let start : length octets - length octets ≡ 0 = omega arith in
    record {
      most = length octets;
      enough = omega arith;
      sized = omega arith;
      told = all_before-none (in_turn first size (length octets) (length octets - length octets) octets)
          ∙ ap (λ at. in_turn first size (length octets) at octets) start;
    }

-- one item more
pub next_read : {A : Type 0} (first : ℕ → List ℕ → Option A) (size : List ℕ → ℕ) (spelled : A → List ℕ) (octets : List ℕ) (items : List A) (rest : List ℕ) (item : A)
    → Turned first size spelled octets items rest
    → 0 < length rest
    → first (length octets - length rest) rest ≡ Some item
    → length (spelled item) ≡ size rest
    → 0 < size rest
    → size rest ≤ length rest
    → Turned first size spelled octets (items ++ item ∷ []) (drop (size rest) rest)
next_read first size spelled octets items [] item so some read spells moves fits = absurd (omega arith)
next_read {A} first size spelled octets items (o ∷ os) item so some read spells moves fits = go so.most so.enough so.told where
  go : (most : ℕ) → length (o ∷ os) ≤ most
      → all_before items (in_turn first size most (length octets - length (o ∷ os)) (o ∷ os)) ≡ in_turn first size (length octets) 0 octets
      → Turned first size spelled octets (items ++ item ∷ []) (drop (size (o ∷ os)) (o ∷ os))
  go zero enough told = absurd (omega arith)
  go (suc most) enough told =
      let left : length (drop (size (o ∷ os)) (o ∷ os)) + size (o ∷ os) ≡ length (o ∷ os) = omega (arith, length-drop {A = ℕ} (size (o ∷ os)) (o ∷ os), fits) in
      let spelt : length (all_octets spelled (items ++ item ∷ [])) ≡ length (all_octets spelled items) + length (spelled item) =
      ap length (all_octets-append spelled items (item ∷ [])) ∙ grind (arith, common_steps) in
      let place : length octets - length (drop (size (o ∷ os)) (o ∷ os)) ≡ length octets - length (o ∷ os) + size (o ∷ os) = omega (arith, left, so.sized) in
      let more : ℕ → Result (List A) ℕ = λ at. in_turn first size most at (drop (size (o ∷ os)) (o ∷ os)) in
      record {
        most = most;
        enough = omega (arith, left, enough, moves);
        sized = omega (arith, spelt, left, so.sized, spells);
        told = all_before-one items item (length octets - length (o ∷ os)) (more (length octets - length (drop (size (o ∷ os)) (o ∷ os))))
            ∙ ap (λ at. all_before items (before (length octets - length (o ∷ os)) (Some item) (more at))) place
            ∙ ap (λ x. all_before items (before (length octets - length (o ∷ os)) x (more (length octets - length (o ∷ os) + size (o ∷ os))))) (sym read)
            ∙ told;
      }

-- an item that is wrong
pub wrong_read : {A : Type 0} (first : ℕ → List ℕ → Option A) (size : List ℕ → ℕ) (spelled : A → List ℕ) (octets : List ℕ) (items : List A) (rest : List ℕ)
    → Turned first size spelled octets items rest
    → 0 < length rest
    → first (length octets - length rest) rest ≡ None
    → in_turn first size (length octets) 0 octets ≡ Err (length octets - length rest)
wrong_read first size spelled octets items [] so some read = absurd (omega arith)
wrong_read {A} first size spelled octets items (o ∷ os) so some read = go so.most so.enough so.told where
  go : (most : ℕ) → length (o ∷ os) ≤ most
      → all_before items (in_turn first size most (length octets - length (o ∷ os)) (o ∷ os)) ≡ in_turn first size (length octets) 0 octets
      → in_turn first size (length octets) 0 octets ≡ Err (length octets - length (o ∷ os))
  go zero enough told = absurd (omega arith)
  go (suc most) enough told =
      sym told
      ∙ ap (λ x. all_before items (before (length octets - length (o ∷ os)) x (in_turn first size most (length octets - length (o ∷ os) + size (o ∷ os)) (drop (size (o ∷ os)) (o ∷ os))))) read

-- all items were read
pub all_read : {A : Type 0} (first : ℕ → List ℕ → Option A) (size : List ℕ → ℕ) (spelled : A → List ℕ) (octets : List ℕ) (items : List A) (rest : List ℕ)
    → Turned first size spelled octets items rest
    → length rest ≡ 0
    → (in_turn first size (length octets) 0 octets ≡ Ok items) × (length (all_octets spelled items) ≡ length octets)
all_read first size spelled octets items [] so none = go so.most so.told where
  go : (most : ℕ) → all_before items (in_turn first size most (length octets - 0) []) ≡ in_turn first size (length octets) 0 octets
      → (in_turn first size (length octets) 0 octets ≡ Ok items) × (length (all_octets spelled items) ≡ length octets)
  go zero told = (sym told ∙ grind (arith, common_steps), omega (arith, so.sized))
  go (suc most) told = (sym told ∙ grind (arith, common_steps), omega (arith, so.sized))
all_read first size spelled octets items (o ∷ os) so none = absurd (omega arith)
