-- A list of timers stays one when a name is started or stopped.
use Rattle.std.proofs.Common.{◌≡◌, ◌<◌, ◌≤◌, ◌+◌, ℕ, Bool, true, false, List, [], ◌∷◌, length, arith, refl, ap, subst}
use Rattle.std.proofs.lemmas.Bool.{and_from, and_parts}
use Rattle.std.specs.Prelude.{◌&&◌}
use Rattle.nas_timers.specs.declared.timer_id.TheConstants.{NAMES}
use Rattle.nas_timers.specs.Names.{is_before, is_name, same_name}
use Rattle.nas_timers.specs.Timers.{Running, all_behind, are_timers, started, stopped}
use Rattle.nas_timers.specs.declared.timer_id.TimerId.{TimerId}
use Rattle.nas_timers.proofs.NameLemmas.{before_apart, before_more, before_other, place, place_limit, places_rise, same_equal, same_turned}

-- the parts of a list of timers
abbrev pub Parts : Running → List Running → Type 0
Parts t ts = (is_name t.id ≡ true) × (all_behind t.id ts ≡ true) × (are_timers ts ≡ true)

pub parts : (t : Running) (ts : List Running) → are_timers (t ∷ ts) ≡ true → Parts t ts
parts t ts h =
    let outer = and_parts (is_name t.id && all_behind t.id ts) (are_timers ts) h in
    let inner = and_parts (is_name t.id) (all_behind t.id ts) outer.0 in (inner.0, inner.1, outer.1)

joined : (t : Running) (ts : List Running) → is_name t.id ≡ true → all_behind t.id ts ≡ true → are_timers ts ≡ true → are_timers (t ∷ ts) ≡ true
joined t ts named behind rest =
    and_from (is_name t.id && all_behind t.id ts) (are_timers ts) (and_from (is_name t.id) (all_behind t.id ts) named behind) rest

-- what stands behind a name stands behind those before it
pub behind_more : (a b : TimerId) (ts : List Running) → is_before a b ≡ true → all_behind b ts ≡ true → all_behind a ts ≡ true
behind_more a b [] h behind = refl
behind_more a b (t ∷ ts) h behind =
    let p = and_parts (is_before b t.id) (all_behind b ts) behind in
    and_from (is_before a t.id) (all_behind a ts) (before_more a b t.id h p.0) (behind_more a b ts h p.1)

-- a name that all stand behind isn't among them
pub stopped_behind : (id : TimerId) (ts : List Running) → all_behind id ts ≡ true → stopped id ts ≡ ts
stopped_behind id [] behind = refl
stopped_behind id (t ∷ ts) behind =
    let p = and_parts (is_before id t.id) (all_behind id ts) behind in
    let apart : same_name t.id id ≡ false = same_turned id t.id (before_apart id t.id p.0) in
    rw apart (ap (λ (us : List Running). t ∷ us) (stopped_behind id ts p.1))

behind_stopped_by : (x id : TimerId) (t : Running) (ts : List Running) (b : Bool) → same_name t.id id ≡ b → all_behind x (t ∷ ts) ≡ true →
    all_behind x (stopped id ts) ≡ true → all_behind x (stopped id (t ∷ ts)) ≡ true
behind_stopped_by x id t ts true is behind rest = rw is rest
behind_stopped_by x id t ts false is behind rest =
    let p = and_parts (is_before x t.id) (all_behind x ts) behind in rw is (and_from (is_before x t.id) (all_behind x (stopped id ts)) p.0 rest)

behind_stopped : (x id : TimerId) (ts : List Running) → all_behind x ts ≡ true → all_behind x (stopped id ts) ≡ true
behind_stopped x id [] behind = refl
behind_stopped x id (t ∷ ts) behind =
    let p = and_parts (is_before x t.id) (all_behind x ts) behind in
    behind_stopped_by x id t ts (same_name t.id id) refl behind (behind_stopped x id ts p.1)

timers_stopped_by : (id : TimerId) (t : Running) (ts : List Running) (b : Bool) → same_name t.id id ≡ b → Parts t ts → are_timers (stopped id ts) ≡ true →
    are_timers (stopped id (t ∷ ts)) ≡ true
timers_stopped_by id t ts true is p rest = rw is rest
timers_stopped_by id t ts false is p rest = rw is (joined t (stopped id ts) p.0 (behind_stopped t.id id ts p.1) rest)

pub timers_stopped : (id : TimerId) (ts : List Running) → are_timers ts ≡ true → are_timers (stopped id ts) ≡ true
timers_stopped id [] h = refl
timers_stopped id (t ∷ ts) h =
    let p = parts t ts h in timers_stopped_by id t ts (same_name t.id id) refl p (timers_stopped id ts p.2)

behind_started_by : (x id : TimerId) (at : ℕ) (t : Running) (ts : List Running) (b : Bool) → is_before t.id id ≡ b → is_before x id ≡ true →
    all_behind x (t ∷ ts) ≡ true → all_behind x (started id at ts) ≡ true → all_behind x (started id at (t ∷ ts)) ≡ true
behind_started_by x id at t ts true is h behind rest =
    let p = and_parts (is_before x t.id) (all_behind x ts) behind in rw is (and_from (is_before x t.id) (all_behind x (started id at ts)) p.0 rest)
behind_started_by x id at t ts false is h behind rest =
    rw is (and_from (is_before x id) (all_behind x (stopped id (t ∷ ts))) h (behind_stopped x id (t ∷ ts) behind))

behind_started : (x id : TimerId) (at : ℕ) (ts : List Running) → is_before x id ≡ true → all_behind x ts ≡ true → all_behind x (started id at ts) ≡ true
behind_started x id at [] h behind = and_from (is_before x id) true h refl
behind_started x id at (t ∷ ts) h behind =
    let p = and_parts (is_before x t.id) (all_behind x ts) behind in
    behind_started_by x id at t ts (is_before t.id id) refl h behind (behind_started x id at ts h p.1)

-- the others stand behind the name, where no timer stands before it
others_behind : (id : TimerId) (t : Running) (ts : List Running) (b : Bool) → same_name t.id id ≡ b → is_before t.id id ≡ false → all_behind t.id ts ≡ true →
    all_behind id (stopped id (t ∷ ts)) ≡ true
others_behind id t ts true is h behind =
    rw is (behind_stopped id id ts (subst (λ (x : TimerId). all_behind x ts ≡ true) (same_equal t.id id is) behind))
others_behind id t ts false is h behind =
    let before : is_before id t.id ≡ true = before_other t.id id h is in
    behind_stopped id id (t ∷ ts) (and_from (is_before id t.id) (all_behind id ts) before (behind_more id t.id ts before behind))

timers_started_by : (id : TimerId) (at : ℕ) (t : Running) (ts : List Running) (b : Bool) → is_before t.id id ≡ b → is_name id ≡ true → are_timers (t ∷ ts) ≡ true →
    are_timers (started id at ts) ≡ true → are_timers (started id at (t ∷ ts)) ≡ true
timers_started_by id at t ts true is named h rest =
    let p = parts t ts h in rw is (joined t (started id at ts) p.0 (behind_started t.id id at ts is p.1) rest)
timers_started_by id at t ts false is named h rest =
    let p = parts t ts h in
    rw is
    (joined (record { id = id; at = at }) (stopped id (t ∷ ts)) named (others_behind id t ts (same_name t.id id) refl is p.1) (timers_stopped id (t ∷ ts) h))

pub timers_started : (id : TimerId) (at : ℕ) (ts : List Running) → is_name id ≡ true → are_timers ts ≡ true → are_timers (started id at ts) ≡ true
timers_started id at [] named h = joined (record { id = id; at = at }) [] named refl refl
timers_started id at (t ∷ ts) named h =
    timers_started_by id at t ts (is_before t.id id) refl named h (timers_started id at ts named (parts t ts h).2)

-- there are no more timers than names
counted_behind : (id : TimerId) (ts : List Running) → is_name id ≡ true → all_behind id ts ≡ true → are_timers ts ≡ true → place id + length ts < NAMES
counted_behind id [] named behind h = let limit = place_limit id named in omega arith
counted_behind id (t ∷ ts) named behind h =
    let p = parts t ts h in
    let q = and_parts (is_before id t.id) (all_behind id ts) behind in
    let rises = places_rise id t.id named p.0 q.0 in let rest = counted_behind t.id ts p.0 p.1 p.2 in omega arith

pub counted : (ts : List Running) → are_timers ts ≡ true → length ts ≤ NAMES
counted [] h = omega arith
counted (t ∷ ts) h = let p = parts t ts h in let rest = counted_behind t.id ts p.0 p.1 p.2 in omega arith
