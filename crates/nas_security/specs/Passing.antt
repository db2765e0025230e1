-- Which octets pass the check of a context.
use Rattle.std.specs.Prelude.{◌≡◌, ◌≤◌, ◌<◌, ◌^◌, ◌%◌, ℕ, not, ◌==◌, nat_le, nat_lt, List, [], ◌∷◌, length, take, drop, slice_index, if◌then◌else◌}
use Rattle.std.specs.Str.{bytes_eq}
use Rattle.aes_cmac.specs.Nas.{nia2}
use Rattle.nas_base.specs.declared.count.Dir.{Dir}
use Rattle.nas_security.specs.Contexts.{SecurityContext}
use Rattle.nas_security.specs.Counts.{estimate, low_octet, next_count}
use Rattle.nas_security.specs.Frame.{as_sent, frame}
use Rattle.nas_security.specs.declared.verdicts.Verdict.{Verdict}
use Rattle.nas_security.specs.declared.verdicts.Verdict.TheVariants.{Plain, Malformed, Spent, Failed, Passed}

-- octets with the spare half of octet 2 cleared
abbrev pub without_spare : List ℕ → List ℕ
without_spare (first ∷ second ∷ octets) = first ∷ second % 16 ∷ octets
without_spare octets = octets

-- octets pass as the frame of a plain message, which isn't found by deciphering but named
pub record Passes (context : SecurityContext) (dir : Dir) (octets : List ℕ) (count header : ℕ) (plain : List ℕ) : Type 0 where
  pub framed : without_spare octets ≡ frame context dir count header plain
  pub protected : (1 ≤ header) × (header ≤ 4)
  pub size : (8 ≤ length octets) × (length octets ≤ 4096)
  pub estimated : count ≡ estimate (next_count context dir) (low_octet count)
  pub within : count < 2 ^ 24

-- the security header type, the MAC, the sequence number, and what the MAC covers
abbrev pub header_in : List ℕ → ℕ
header_in octets = slice_index octets 1 % 16

abbrev pub mac_in : List ℕ → List ℕ
mac_in octets = take 4 (drop 2 octets)

abbrev pub sequence_number_in : List ℕ → ℕ
sequence_number_in octets = slice_index octets 6

-- the verdict on octets under their count, and the plain message, since to cipher twice leads back
abbrev pub checked : SecurityContext → Dir → ℕ → List ℕ → Verdict × List ℕ
checked context dir count octets =
    let want : List ℕ = nia2 context.keys.int count dir (drop 6 octets) in
    if not (bytes_eq want (mac_in octets)) then (Failed want (mac_in octets), [])
    else (Passed count (header_in octets), as_sent context dir count (header_in octets) (drop 7 octets))

-- the verdict on octets of a frame's form
unfoldable pub estimated : SecurityContext → Dir → List ℕ → Verdict × List ℕ
estimated context dir octets =
    let next : ℕ = next_count context dir in
    let count : ℕ = estimate next (sequence_number_in octets) in
    if nat_le (2 ^ 24) count then (Spent next, []) else checked context dir count octets

-- the verdict on octets, and the plain message of those that pass
unfoldable pub judged : SecurityContext → Dir → List ℕ → Verdict × List ℕ
judged context dir octets =
    if length octets == 0 then (Malformed 0, [])
    else (if not (slice_index octets 0 == 0x7e) then (Malformed 0, [])
    else (if length octets == 1 then (Malformed 1, [])
    else (if header_in octets == 0 then (Plain, [])
    else (if nat_lt 4 (header_in octets) then (Malformed 1, [])
    else (if nat_lt (length octets) 8 then (Malformed (length octets), [])
    else (if nat_lt 4096 (length octets) then (Malformed 4096, [])
    else estimated context dir octets))))))
