-- NAS COUNTs (TS 24.501 clause 4.4.3).
use Rattle.std.specs.Prelude.{◌≡◌, ◌≤◌, ℕ, ◌+◌, ◌-◌, ◌%◌}
use Rattle.nas_base.specs.declared.count.Dir.{Dir}
use Rattle.nas_base.specs.declared.count.Dir.TheVariants.{Up, Down}
use Rattle.nas_security.specs.Contexts.{SecurityContext}

-- the count that the next message of a direction has
abbrev pub next_count : SecurityContext → Dir → ℕ
next_count context Up = context.up
next_count context Down = context.down

-- a context whose next count of a direction is n
abbrev pub with_next : SecurityContext → Dir → ℕ → SecurityContext
with_next context Up n = record context { up = n }
with_next context Down n = record context { down = n }

-- the sequence number of a count: its low octet
abbrev pub low_octet : ℕ → ℕ
low_octet count = count % 256

-- the least number that isn't below the next count and has this low octet
abbrev pub estimate : ℕ → ℕ → ℕ
estimate next low = next + (low + 256 - low_octet next) % 256

-- that it is this number
abbrev pub IsLeast : ℕ → ℕ → ℕ → Type 0
IsLeast next low n = (next ≤ n) × (low_octet n ≡ low) × ((m : ℕ) → next ≤ m → low_octet m ≡ low → n ≤ m)
