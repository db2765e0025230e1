-- What starting and stopping change.
use Rattle.std.proofs.Common.{◌≡◌, ◌≢◌, ◌∙◌, ℕ, Bool, true, false, cond, List, [], ◌∷◌, Option, Some, None, refl, subst}
use Rattle.nas_timers.specs.Names.{is_before, same_name}
use Rattle.nas_timers.specs.TimerLaws.{StartsReplace, StopsRemove}
use Rattle.nas_timers.specs.Timers.{Running, deadline_of, started, stopped}
use Rattle.nas_timers.specs.declared.timer_id.TimerId.{TimerId}
use Rattle.nas_timers.proofs.NameLemmas.{before_apart, same_apart, same_equal, same_self, same_turned}

-- one of two timers has a third name at most, where the two names differ
apart_from : (a b x : TimerId) → same_name a b ≡ false → same_name a x ≡ true → same_name b x ≡ false
apart_from a b x apart h =
    subst (λ (y : TimerId). same_name b y ≡ false) (same_equal a x h) (same_turned a b apart)

stopped_by : (x id : TimerId) (t : Running) (ts : List Running) (b d : Bool) → same_name t.id id ≡ b → same_name t.id x ≡ d →
    deadline_of x (stopped id ts) ≡ cond (same_name id x) None (deadline_of x ts) →
    deadline_of x (stopped id (t ∷ ts)) ≡ cond (same_name id x) None (deadline_of x (t ∷ ts))
stopped_by x id t ts true true is own later =
    let named : same_name id x ≡ true = subst (λ (y : TimerId). same_name y x ≡ true) (same_equal t.id id is) own in
    rw (is, own, named) (later ∙ rw named refl)
stopped_by x id t ts true false is own later = rw (is, own) later
stopped_by x id t ts false true is own later = rw (is, own, apart_from t.id id x is own) refl
stopped_by x id t ts false false is own later = rw (is, own) later

none_by : (b : Bool) → let none : Option ℕ = None in none ≡ cond b none none
none_by true = refl
none_by false = refl

-- the deadline of each name when one is stopped
pub deadline_of-stopped : (x id : TimerId) (ts : List Running) → deadline_of x (stopped id ts) ≡ cond (same_name id x) None (deadline_of x ts)
deadline_of-stopped x id [] = none_by (same_name id x)
deadline_of-stopped x id (t ∷ ts) = stopped_by x id t ts (same_name t.id id) (same_name t.id x) refl refl (deadline_of-stopped x id ts)

started_here : (x id : TimerId) (at : ℕ) (ts : List Running) (b : Bool) → same_name id x ≡ b →
    cond (same_name id x) (Some at) (deadline_of x (stopped id ts)) ≡ cond (same_name id x) (Some at) (deadline_of x ts)
started_here x id at ts true is = rw is refl
started_here x id at ts false is = rw is (deadline_of-stopped x id ts ∙ rw is refl)

started_by : (x id : TimerId) (at : ℕ) (t : Running) (ts : List Running) (b d : Bool) → is_before t.id id ≡ b → same_name t.id x ≡ d →
    deadline_of x (started id at ts) ≡ cond (same_name id x) (Some at) (deadline_of x ts) →
    deadline_of x (started id at (t ∷ ts)) ≡ cond (same_name id x) (Some at) (deadline_of x (t ∷ ts))
started_by x id at t ts true true is own later =
    let other : same_name id x ≡ false = apart_from t.id id x (before_apart t.id id is) own in rw (is, own, other) refl
started_by x id at t ts true false is own later = rw (is, own) later
started_by x id at t ts false d is own later = rw is (started_here x id at (t ∷ ts) (same_name id x) refl)

-- the deadline of each name when one is started
pub deadline_of-started : (x id : TimerId) (at : ℕ) (ts : List Running) →
    deadline_of x (started id at ts) ≡ cond (same_name id x) (Some at) (deadline_of x ts)
deadline_of-started x id at [] = refl
deadline_of-started x id at (t ∷ ts) = started_by x id at t ts (is_before t.id id) (same_name t.id x) refl refl (deadline_of-started x id at ts)

apart_turned : (id other : TimerId) → other ≢ id → same_name id other ≡ false
apart_turned id other apart = same_turned other id (same_apart other id apart)

pub starts_replace : StartsReplace
starts_replace = record {
  changed = λ id at ts. deadline_of-started id id at ts ∙ rw (same_self id) refl;
  others = λ id other at ts apart. deadline_of-started other id at ts ∙ rw (apart_turned id other apart) refl;
}

pub stops_remove : StopsRemove
stops_remove = record {
  changed = λ id ts. deadline_of-stopped id id ts ∙ rw (same_self id) refl;
  others = λ id other ts apart. deadline_of-stopped other id ts ∙ rw (apart_turned id other apart) refl;
}
