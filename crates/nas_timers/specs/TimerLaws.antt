-- What starting and stopping change, and which timer is due.
use Rattle.std.specs.Prelude.{◌≡◌, ◌≢◌, ◌<◌, ◌≤◌, ◌⊎◌, ℕ, true, List, Some, None, MatchOption, Contains}
use Rattle.nas_timers.specs.Names.{is_before}
use Rattle.nas_timers.specs.Timers.{Running, are_timers, deadline_of, due_of, started, stopped}
use Rattle.nas_timers.specs.declared.timer_id.TimerId.{TimerId}

-- The deadline of a name is the one that stands beside it among the timers, and no name stands there with two.
pub record DeadlinesStand : Type 0 where
  pub found : (id : TimerId) (at : ℕ) (ts : List Running) → deadline_of id ts ≡ Some at → Contains ts (record { id = id; at = at })
  pub only : (t : Running) (ts : List Running) → are_timers ts ≡ true → Contains ts t → deadline_of t.id ts ≡ Some t.at

-- A name that is started has the new deadline, and all others have theirs.
pub record StartsReplace : Type 0 where
  pub changed : (id : TimerId) (at : ℕ) (ts : List Running) → deadline_of id (started id at ts) ≡ Some at
  pub others : (id other : TimerId) (at : ℕ) (ts : List Running) → other ≢ id → deadline_of other (started id at ts) ≡ deadline_of other ts

-- A name that is stopped has no deadline, and all others have theirs.
pub record StopsRemove : Type 0 where
  pub changed : (id : TimerId) (ts : List Running) → deadline_of id (stopped id ts) ≡ None
  pub others : (id other : TimerId) (ts : List Running) → other ≢ id → deadline_of other (stopped id ts) ≡ deadline_of other ts

-- a name is due, and none that is due has an earlier deadline, or the same one and an earlier name
pub record IsDue (now : ℕ) (ts : List Running) (id : TimerId) : Type 0 where
  pub at : ℕ
  pub running : deadline_of id ts ≡ Some at
  pub due : at ≤ now
  pub least : (other : TimerId) (later : ℕ) → deadline_of other ts ≡ Some later → later ≤ now → other ≢ id →
      (at < later) ⊎ ((at ≡ later) × (is_before id other ≡ true))

-- no deadline has come
abbrev pub NoneIsDue : ℕ → List Running → Type 0
NoneIsDue now ts = (id : TimerId) (at : ℕ) → deadline_of id ts ≡ Some at → now < at

-- What is due is the name with the least deadline that has come; there is none exactly where no deadline has come.
abbrev pub DueIsLeast : Type 0
DueIsLeast = (now : ℕ) (ts : List Running) → are_timers ts ≡ true → MatchOption (due_of now ts) (NoneIsDue now ts) (IsDue now ts)
