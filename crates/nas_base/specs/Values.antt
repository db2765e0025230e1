-- Small numbers that stand for something.
use Rattle.std.specs.Prelude.{ℕ, ◌^◌, Bool, nat_le, ◌&&◌, Option, Some, None, if◌then◌else◌}

-- the last moment, in milliseconds
abbrev pub last_moment : ℕ
last_moment = 10 ^ 15

-- PDU session identities (TS 24.501 clause 9.4)
abbrev pub is_psi : ℕ → Bool
is_psi n = nat_le 1 n && nat_le n 15

abbrev pub psi_from : ℕ → Option ℕ
psi_from n = if is_psi n then Some n else None

-- procedure transaction identities (clause 9.6)
abbrev pub is_pti : ℕ → Bool
is_pti n = nat_le 1 n && nat_le n 254

abbrev pub pti_from : ℕ → Option ℕ
pti_from n = if is_pti n then Some n else None
