-- Copies of octets, up to a limit.
use Rattle.std.specs.Prelude.{◌≡◌, ◌<◌, ◌≤◌, ℕ, List, length, Result, Ok, Err}
use Rattle.nas_base.specs.declared.octets.OctetsRefusal.{OctetsRefusal}
use Rattle.nas_base.specs.declared.octets.OctetsRefusal.TheVariants.{TooMany, Memory}

-- the octets are copied, or refused exactly above the limit; a refusal for want of memory says that they were within it
abbrev pub Copies : ℕ → List ℕ → Result (List ℕ) OctetsRefusal → Type 0
Copies limit from (Ok octets) = (length from ≤ limit) × (octets ≡ from)
Copies limit from (Err (TooMany size)) = (limit < length from) × (size ≡ length from)
Copies limit from (Err Memory) = length from ≤ limit
