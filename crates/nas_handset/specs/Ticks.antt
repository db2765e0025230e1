-- The timers that are due at a moment.
use Rattle.std.specs.Prelude.{ℕ, zero, suc, Bool, false, nat_le, max, List, [], ◌∷◌}
use Rattle.nas_base.specs.Branches.{per, when◌then◌else◌}
use Rattle.nas_timers.specs.Timers.{Running, deadline_of, due_of, stopped}
use Rattle.nas_timers.specs.declared.timer_id.TheConstants.{NAMES}
use Rattle.nas_timers.specs.declared.timer_id.TimerId.{TimerId}
use Rattle.ue_mm.specs.declared.inputs.UeInput.TheVariants.{Expired}
use Rattle.nas_handset.specs.State.{HandsetState}
use Rattle.nas_handset.specs.Turns.{Turn, begun, turned}

-- those that are due when a tick begins, by deadline and then by name: the first of all, then the first of the others; there are
-- at most as many as names
unfoldable pub due_within : ℕ → ℕ → List Running → List TimerId
due_within zero now ts = []
due_within (suc n) now ts = per (due_of now ts) [] (λ (id : TimerId). id ∷ due_within n now (stopped id ts))

abbrev pub due_list : ℕ → List Running → List TimerId
due_list now ts = due_within NAMES now ts

-- One of them: where its deadline is still there and has come, it is stopped, and the step of its expiry is taken. An expiry
-- before it may have stopped it, or started it anew.
abbrev pub is_due : TimerId → HandsetState → Bool
is_due id h = per (deadline_of id h.timers) false (λ (at : ℕ). nat_le at h.moment)

abbrev pub without : TimerId → HandsetState → HandsetState
without id h = record h { timers = stopped id h.timers }

unfoldable pub fired : TimerId → Turn → Turn
fired id t = when is_due id t.handset then turned (Expired id) (record t { handset = without id t.handset }) else t

abbrev pub all_fired : List TimerId → Turn → Turn
all_fired [] t = t
all_fired (id ∷ ids) t = all_fired ids (fired id t)

-- A tick: a moment before the last one counts as that one.
abbrev pub at_moment : ℕ → HandsetState → HandsetState
at_moment now h = record h { moment = max h.moment now }

unfoldable pub ticked : ℕ → HandsetState → Turn
ticked now h = all_fired (due_list (max h.moment now) h.timers) (begun (at_moment now h))
