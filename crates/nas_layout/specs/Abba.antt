-- ABBA (TS 33.501 clause A.7.1, TS 24.501 clause 9.11.3.10).
use Rattle.std.specs.Prelude.{ℕ, List, length, nat_le, ◌&&◌, Option, Some, None, if◌then◌else◌}

-- 2 to 255 octets
abbrev pub abba_in : List ℕ → Option (List ℕ)
abba_in octets = if nat_le 2 (length octets) && nat_le (length octets) 255 then Some octets else None
