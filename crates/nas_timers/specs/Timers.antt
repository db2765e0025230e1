-- The timers that run, by their names.
use Rattle.std.specs.Prelude.{ℕ, Bool, true, List, [], ◌∷◌, nat_lt, nat_le, ◌==◌, ◌&&◌, ◌||◌, Option, Some, None, option_map, if◌then◌else◌}
use Rattle.nas_timers.specs.Names.{is_before, is_name, same_name}
use Rattle.nas_timers.specs.declared.timer_id.TimerId.{TimerId}

-- a timer that runs, and its deadline in milliseconds
pub record Running : Type 0 where
  pub id : TimerId
  pub at : ℕ

-- all stand behind this name
abbrev pub all_behind : TimerId → List Running → Bool
all_behind id [] = true
all_behind id (t ∷ ts) = is_before id t.id && all_behind id ts

-- Each has a name, and each stands behind those before it: so no name stands twice, and a set of timers has one list.
abbrev pub are_timers : List Running → Bool
are_timers [] = true
are_timers (t ∷ ts) = is_name t.id && all_behind t.id ts && are_timers ts

-- the deadline of a name
abbrev pub deadline_of : TimerId → List Running → Option ℕ
deadline_of id [] = None
deadline_of id (t ∷ ts) = if same_name t.id id then Some t.at else deadline_of id ts

-- the others
abbrev pub stopped : TimerId → List Running → List Running
stopped id [] = []
stopped id (t ∷ ts) = if same_name t.id id then stopped id ts else t ∷ stopped id ts

-- the others, and the name with its new deadline, in its place by the order of names
abbrev pub started : TimerId → ℕ → List Running → List Running
started id at [] = record { id = id; at = at } ∷ []
started id at (t ∷ ts) = if is_before t.id id then t ∷ started id at ts else record { id = id; at = at } ∷ stopped id (t ∷ ts)

-- an earlier deadline, or the same one and a name before the other's
abbrev pub is_sooner : Running → Running → Bool
is_sooner t u = nat_lt t.at u.at || (t.at == u.at && is_before t.id u.id)

-- the sooner of a timer and what was found before it
abbrev pub sooner_of : Running → Option Running → Option Running
sooner_of t None = Some t
sooner_of t (Some u) = if is_sooner t u then Some t else Some u

-- of what was found and those timers that are due the soonest
abbrev pub soonest_from : ℕ → Option Running → List Running → Option Running
soonest_from now found [] = found
soonest_from now found (t ∷ ts) = soonest_from now (if nat_le t.at now then sooner_of t found else found) ts

-- the name that is due first
abbrev pub due_of : ℕ → List Running → Option TimerId
due_of now ts = option_map (λ (t : Running). t.id) (soonest_from now None ts)
