-- Octets are read from left to right.
use Rattle.std.specs.Prelude.{◌≡◌, ℕ, ◌+◌, ◌/◌, ◌%◌, List, length, take, drop, slice_index, nat_lt, Result, Ok, Err, if◌then◌else◌}
use Rattle.byteorder.specs.Endian.{big_number}
use Rattle.nas_base.specs.declared.reader.Short.{Short}

-- where a reader stands, counted from 0, and the octets from there on
pub record Place : Type 0 where
  pub at : ℕ
  pub left : List ℕ

-- the place n octets further on
abbrev pub past : ℕ → Place → Place
past n p = record { at = p.at + n; left = drop n p.left }

-- what a read answers: a value with the place behind it, or that octets are missing
abbrev pub Reads : Type 0 → Type 0
Reads A = Result (A × Place) Short

-- a read that needs n octets
abbrev pub needing : {A : Type 0} → ℕ → Place → Reads A → Reads A
needing n p read = if nat_lt (length p.left) n then Err (record { at = p.at; need = n }) else read

-- the next n octets
abbrev pub octets_at : ℕ → Place → Reads (List ℕ)
octets_at n p = needing n p (Ok (take n p.left, past n p))

-- the two halves of the next octet: bits 1 to 4, and bits 5 to 8 (TS 24.007 clause 11.2.1.1)
abbrev pub halves_at : Place → Reads (ℕ × ℕ)
halves_at p = needing 1 p (Ok ((slice_index p.left 0 % 16, slice_index p.left 0 / 16), past 1 p))

-- n octets behind a length that is itself written in so many octets
abbrev pub behind_length : ℕ → ℕ → Place → Reads (List ℕ)
behind_length width n p = needing (width + n) p (Ok (take n (drop width p.left), past (width + n) p))

-- a value behind its length: in one octet (LV), or in two (LV-E) (TS 24.007 clause 11.2.1.1)
abbrev pub lv_at : Place → Reads (List ℕ)
lv_at p = needing 1 p (behind_length 1 (slice_index p.left 0) p)

abbrev pub lve_at : Place → Reads (List ℕ)
lve_at p = needing 2 p (behind_length 2 (big_number 2 p.left) p)

-- what a reader answered, seen by view, and where it stands then: after a refusal it stands where it stood
abbrev pub Gives : {X A : Type 0} → (X → A) → Result X Short → Place → Place → Reads A → Type 0
Gives view (Ok x) old new read = read ≡ Ok (view x, new)
Gives view (Err e) old new read = (read ≡ Err e) × (new ≡ old)
