-- How long timers run, in milliseconds (TS 24.501 tables 10.2.1, 10.2.2, 10.3.1 and 10.3.2 list them; how long is a choice).
use Rattle.std.specs.Prelude.{ℕ, ◌+◌, Bool, nat_le, ◌&&◌, min}
use Rattle.nas_base.specs.Values.{last_moment}
use Rattle.nas_timers.specs.declared.timer_id.TimerId.{TimerId}
use Rattle.nas_timers.specs.declared.timer_id.TimerId.TheVariants.{T3510, T3516, T3517, T3521, T3522, T3550, T3555, T3560, T3580, T3581, T3582, T3591, T3592}

-- a duration for each number of a timer
pub record DurationParts : Type 0 where
  pub t3510 : ℕ
  pub t3516 : ℕ
  pub t3517 : ℕ
  pub t3521 : ℕ
  pub t3522 : ℕ
  pub t3550 : ℕ
  pub t3555 : ℕ
  pub t3560 : ℕ
  pub t3580 : ℕ
  pub t3581 : ℕ
  pub t3582 : ℕ
  pub t3591 : ℕ
  pub t3592 : ℕ

-- 1 millisecond to 24 hours
abbrev pub is_duration : ℕ → Bool
is_duration ms = nat_le 1 ms && nat_le ms 86400000

abbrev pub are_durations : DurationParts → Bool
are_durations d =
    is_duration d.t3510 && is_duration d.t3516 && is_duration d.t3517 && is_duration d.t3521 && is_duration d.t3522 && is_duration d.t3550 && is_duration d.t3555 && is_duration d.t3560
    && is_duration d.t3580 && is_duration d.t3581 && is_duration d.t3582 && is_duration d.t3591 && is_duration d.t3592

-- the duration of a timer
abbrev pub duration_of : TimerId → DurationParts → ℕ
duration_of T3510 d = d.t3510
duration_of T3516 d = d.t3516
duration_of T3517 d = d.t3517
duration_of T3521 d = d.t3521
duration_of T3522 d = d.t3522
duration_of T3550 d = d.t3550
duration_of T3555 d = d.t3555
duration_of T3560 d = d.t3560
duration_of (T3580 psi) d = d.t3580
duration_of (T3581 psi) d = d.t3581
duration_of (T3582 psi) d = d.t3582
duration_of (T3591 psi) d = d.t3591
duration_of (T3592 psi) d = d.t3592

-- the durations that hold where no others are given
abbrev pub standard_durations : DurationParts
standard_durations = record {
  t3510 = 15000;
  t3516 = 30000;
  t3517 = 15000;
  t3521 = 15000;
  t3522 = 6000;
  t3550 = 6000;
  t3555 = 6000;
  t3560 = 6000;
  t3580 = 16000;
  t3581 = 16000;
  t3582 = 16000;
  t3591 = 16000;
  t3592 = 16000;
}

-- the deadline of a timer that starts now: none is behind the last moment
abbrev pub deadline_after : ℕ → ℕ → ℕ
deadline_after now duration = min (now + duration) last_moment
