-- A name is started or stopped at its place.
use Rattle.std.proofs.Common.{◌≡◌, ◌∙◌, ◌<◌, ◌≤◌, ℕ, zero, suc, Bool, true, false, List, [], ◌∷◌, length, set, arith, refl, ap, sym, subst}
use Rattle.std.proofs.lemmas.Bool.{and_from}
use Rattle.std.proofs.lemmas.Grind.{common_steps}
use Rattle.std.proofs.Math.ListN.{length-set}
use Rattle.std.specs.List.{refill}
use Rattle.std.specs.Prelude.{insert, remove}
use Rattle.nas_timers.specs.Names.{is_before, same_name}
use Rattle.nas_timers.specs.Places.{is_at, place_of}
use Rattle.nas_timers.specs.Timers.{Running, all_behind, are_timers, started, stopped}
use Rattle.nas_timers.specs.declared.timer_id.TimerId.{TimerId}
use Rattle.nas_timers.proofs.NameLemmas.{before_apart, before_other, same_equal}
use Rattle.nas_timers.proofs.TimersLemmas.{behind_more, parts, stopped_behind}

-- a place is among the timers, or at their end
within_by : (id : TimerId) (t : Running) (ts : List Running) (b : Bool) → is_before t.id id ≡ b → place_of id ts ≤ length ts → place_of id (t ∷ ts) ≤ length (t ∷ ts)
within_by id t ts true is h = rw is (omega arith)
within_by id t ts false is h = rw is (omega arith)

pub place_within : (id : TimerId) (ts : List Running) → place_of id ts ≤ length ts
place_within id [] = omega arith
place_within id (t ∷ ts) = within_by id t ts (is_before t.id id) refl (place_within id ts)

-- where a name stands there is a timer
pub at_within : (place : ℕ) (id : TimerId) (ts : List Running) → is_at place id ts ≡ true → place < length ts
at_within place id [] h = cc
at_within zero id (t ∷ ts) h = omega arith
at_within (suc place) id (t ∷ ts) h = let rest = at_within place id ts h in omega arith

-- a timer of the name is replaced
replaced_here : (id : TimerId) (at : ℕ) (t : Running) (ts : List Running) → is_before t.id id ≡ false → same_name t.id id ≡ true → are_timers (t ∷ ts) ≡ true →
    started id at (t ∷ ts) ≡ record { id = id; at = at } ∷ ts
replaced_here id at t ts before same h =
    let p = parts t ts h in
    let behind : all_behind id ts ≡ true = subst (λ (x : TimerId). all_behind x ts ≡ true) (same_equal t.id id same) p.1 in
    rw (before, same) (ap (λ (us : List Running). record { id = id; at = at } ∷ us) (stopped_behind id ts behind))

replaced_by : (id : TimerId) (at : ℕ) (t : Running) (ts : List Running) (b : Bool) → is_before t.id id ≡ b → are_timers (t ∷ ts) ≡ true →
    (is_at (place_of id ts) id ts ≡ true → started id at ts ≡ set ts (place_of id ts) (record { id = id; at = at })) → is_at (place_of id (t ∷ ts)) id (t ∷ ts) ≡ true →
    started id at (t ∷ ts) ≡ set (t ∷ ts) (place_of id (t ∷ ts)) (record { id = id; at = at })
replaced_by id at t ts true is h later there =
    let below : is_at (place_of id ts) id ts ≡ true = rw is at there in rw is (ap (λ (us : List Running). t ∷ us) (later below))
replaced_by id at t ts false is h later there =
    let same : same_name t.id id ≡ true = rw is at there in replaced_here id at t ts is same h ∙ sym (rw is refl)

pub replaced : (id : TimerId) (at : ℕ) (ts : List Running) → are_timers ts ≡ true → is_at (place_of id ts) id ts ≡ true →
    started id at ts ≡ set ts (place_of id ts) (record { id = id; at = at })
replaced id at [] h there = cc
replaced id at (t ∷ ts) h there =
    replaced_by id at t ts (is_before t.id id) refl h (replaced id at ts (parts t ts h).2) there

-- a name that isn't among the timers
absent_here : (id : TimerId) (t : Running) (ts : List Running) → is_before t.id id ≡ false → same_name t.id id ≡ false → are_timers (t ∷ ts) ≡ true →
    stopped id (t ∷ ts) ≡ t ∷ ts
absent_here id t ts before same h =
    let p = parts t ts h in
    let first : is_before id t.id ≡ true = before_other t.id id before same in
    stopped_behind id (t ∷ ts) (and_from (is_before id t.id) (all_behind id ts) first (behind_more id t.id ts first p.1))

added_by : (id : TimerId) (at : ℕ) (t : Running) (ts : List Running) (b : Bool) → is_before t.id id ≡ b → are_timers (t ∷ ts) ≡ true →
    (is_at (place_of id ts) id ts ≡ false → started id at ts ≡ insert ts (place_of id ts) (record { id = id; at = at })) → is_at (place_of id (t ∷ ts)) id (t ∷ ts) ≡ false →
    started id at (t ∷ ts) ≡ insert (t ∷ ts) (place_of id (t ∷ ts)) (record { id = id; at = at })
added_by id at t ts true is h later there =
    let below : is_at (place_of id ts) id ts ≡ false = rw is at there in rw is (ap (λ (us : List Running). t ∷ us) (later below))
added_by id at t ts false is h later there =
    let same : same_name t.id id ≡ false = rw is at there in
    rw is (ap (λ (us : List Running). record { id = id; at = at } ∷ us) (absent_here id t ts is same h))

pub added : (id : TimerId) (at : ℕ) (ts : List Running) → are_timers ts ≡ true → is_at (place_of id ts) id ts ≡ false →
    started id at ts ≡ insert ts (place_of id ts) (record { id = id; at = at })
added id at [] h there = refl
added id at (t ∷ ts) h there = added_by id at t ts (is_before t.id id) refl h (added id at ts (parts t ts h).2) there

removed_here : (id : TimerId) (t : Running) (ts : List Running) → same_name t.id id ≡ true → are_timers (t ∷ ts) ≡ true → stopped id (t ∷ ts) ≡ ts
removed_here id t ts same h =
    let p = parts t ts h in
    rw same (stopped_behind id ts (subst (λ (x : TimerId). all_behind x ts ≡ true) (same_equal t.id id same) p.1))

removed_by : (id : TimerId) (t : Running) (ts : List Running) (b : Bool) → is_before t.id id ≡ b → are_timers (t ∷ ts) ≡ true →
    (is_at (place_of id ts) id ts ≡ true → stopped id ts ≡ remove ts (place_of id ts)) → is_at (place_of id (t ∷ ts)) id (t ∷ ts) ≡ true →
    stopped id (t ∷ ts) ≡ remove (t ∷ ts) (place_of id (t ∷ ts))
removed_by id t ts true is h later there =
    let below : is_at (place_of id ts) id ts ≡ true = rw is at there in
    let apart : same_name t.id id ≡ false = before_apart t.id id is in rw (is, apart) (ap (λ (us : List Running). t ∷ us) (later below))
removed_by id t ts false is h later there =
    let same : same_name t.id id ≡ true = rw is at there in removed_here id t ts same h ∙ sym (rw is refl)

pub removed : (id : TimerId) (ts : List Running) → are_timers ts ≡ true → is_at (place_of id ts) id ts ≡ true → stopped id ts ≡ remove ts (place_of id ts)
removed id [] h there = cc
removed id (t ∷ ts) h there = removed_by id t ts (is_before t.id id) refl h (removed id ts (parts t ts h).2) there

absent_by : (id : TimerId) (t : Running) (ts : List Running) (b : Bool) → is_before t.id id ≡ b → are_timers (t ∷ ts) ≡ true →
    (is_at (place_of id ts) id ts ≡ false → stopped id ts ≡ ts) → is_at (place_of id (t ∷ ts)) id (t ∷ ts) ≡ false → stopped id (t ∷ ts) ≡ t ∷ ts
absent_by id t ts true is h later there =
    let below : is_at (place_of id ts) id ts ≡ false = rw is at there in
    let apart : same_name t.id id ≡ false = before_apart t.id id is in rw apart (ap (λ (us : List Running). t ∷ us) (later below))
absent_by id t ts false is h later there = let same : same_name t.id id ≡ false = rw is at there in absent_here id t ts is same h

pub absent : (id : TimerId) (ts : List Running) → are_timers ts ≡ true → is_at (place_of id ts) id ts ≡ false → stopped id ts ≡ ts
absent id [] h there = refl
absent id (t ∷ ts) h there = absent_by id t ts (is_before t.id id) refl h (absent id ts (parts t ts h).2) there

-- what the list of a `Timers` is after a write at the name's place, and after an insertion there
refilled : (ts us : List Running) → length us ≡ length ts → refill (length ts) ts us ≡ us
refilled ts us h = grind (arith, common_steps)

written : (id : TimerId) (at : ℕ) (ts : List Running) → are_timers ts ≡ true → is_at (place_of id ts) id ts ≡ true →
    refill (length ts) ts (set ts (place_of id ts) (record { id = id; at = at })) ≡ started id at ts
written id at ts h there =
    refilled ts (set ts (place_of id ts) (record { id = id; at = at })) (length-set ts (place_of id ts) (record { id = id; at = at }))
    ∙ sym (replaced id at ts h there)

pub replaced_whole : (id : TimerId) (at place : ℕ) (old items slice : List Running) → old ≡ items → slice ≡ items → place ≡ place_of id old →
    is_at place id old ≡ true → are_timers items ≡ true → refill (length items) items (set slice place (record { id = id; at = at })) ≡ started id at old
replaced_whole id at place old items slice same whole here there h =
    let at_own : is_at (place_of id items) id items ≡ true =
    ap (λ (ts : List Running). is_at (place_of id ts) id ts) (sym same) ∙ ap (λ (k : ℕ). is_at k id old) (sym here) ∙ there in
    ap (λ (ts : List Running). refill (length items) items (set ts place (record { id = id; at = at }))) whole
    ∙ ap (λ (k : ℕ). refill (length items) items (set items k (record { id = id; at = at }))) (here ∙ ap (place_of id) same)
    ∙ written id at items h at_own ∙ ap (started id at) (sym same)
