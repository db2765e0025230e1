-- The names of timers (TS 24.501 tables 10.2.1, 10.2.2, 10.3.1 and 10.3.2), and their order.
use Rattle.std.specs.Prelude.{ℕ, Bool, true, nat_lt, ◌==◌, ◌&&◌, ◌||◌}
use Rattle.nas_base.specs.Values.{is_psi}
use Rattle.nas_timers.specs.declared.timer_id.TimerId.{TimerId}
use Rattle.nas_timers.specs.declared.timer_id.TimerId.TheVariants.{T3510, T3516, T3517, T3521, T3522, T3550, T3555, T3560, T3580, T3581, T3582, T3591, T3592}

-- the number that a timer is called by
abbrev pub number_of : TimerId → ℕ
number_of T3510 = 3510
number_of T3516 = 3516
number_of T3517 = 3517
number_of T3521 = 3521
number_of T3522 = 3522
number_of T3550 = 3550
number_of T3555 = 3555
number_of T3560 = 3560
number_of (T3580 psi) = 3580
number_of (T3581 psi) = 3581
number_of (T3582 psi) = 3582
number_of (T3591 psi) = 3591
number_of (T3592 psi) = 3592

-- the PDU session of a timer that has one, else 0
abbrev pub session_of : TimerId → ℕ
session_of T3510 = 0
session_of T3516 = 0
session_of T3517 = 0
session_of T3521 = 0
session_of T3522 = 0
session_of T3550 = 0
session_of T3555 = 0
session_of T3560 = 0
session_of (T3580 psi) = psi
session_of (T3581 psi) = psi
session_of (T3582 psi) = psi
session_of (T3591 psi) = psi
session_of (T3592 psi) = psi

-- a PDU session of a name is 1 to 15
abbrev pub is_name : TimerId → Bool
is_name T3510 = true
is_name T3516 = true
is_name T3517 = true
is_name T3521 = true
is_name T3522 = true
is_name T3550 = true
is_name T3555 = true
is_name T3560 = true
is_name (T3580 psi) = is_psi psi
is_name (T3581 psi) = is_psi psi
is_name (T3582 psi) = is_psi psi
is_name (T3591 psi) = is_psi psi
is_name (T3592 psi) = is_psi psi

-- one name
abbrev pub same_name : TimerId → TimerId → Bool
same_name a b = number_of a == number_of b && session_of a == session_of b

-- Names are ordered by their numbers, and those of one number by their PDU sessions.
abbrev pub is_before : TimerId → TimerId → Bool
is_before a b = nat_lt (number_of a) (number_of b) || (number_of a == number_of b && nat_lt (session_of a) (session_of b))
