-- Where a name stands among the timers that run.
use Rattle.std.specs.Prelude.{ℕ, suc, Bool, false, List, [], ◌∷◌, Option, Some, None, if◌then◌else◌, slice_get}
use Rattle.nas_timers.specs.Names.{is_before, same_name}
use Rattle.nas_timers.specs.Timers.{Running}
use Rattle.nas_timers.specs.declared.timer_id.TimerId.{TimerId}

-- how many stand before a name
abbrev pub place_of : TimerId → List Running → ℕ
place_of id [] = 0
place_of id (t ∷ ts) = if is_before t.id id then suc (place_of id ts) else 0

-- it is the name's
abbrev pub is_named : TimerId → Option Running → Bool
is_named id None = false
is_named id (Some t) = same_name t.id id

-- the name stands at a place
abbrev pub is_at : ℕ → TimerId → List Running → Bool
is_at place id ts = is_named id (slice_get ts place)
