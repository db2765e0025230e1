-- The table of the timers, and its keys, in the order in which they are checked. All of them may be left out.
use Rattle.std.specs.Prelude.{ℕ, List, codes, Option, Some, None, Result, Ok}
use Rattle.std.specs.Option.{option_and_then}
use Rattle.toml.specs.Data.{Data, as_integer, get}
use Rattle.nas_timers.specs.Durations.{DurationParts, standard_durations}
use Rattle.nas_script.specs.Document.{between, only_table}
use Rattle.nas_script.specs.Reads.{◌>>=◌, named}
use Rattle.nas_script.specs.declared.key.Key.{Key}
use Rattle.nas_script.specs.declared.key.Key.TheVariants as keys

-- a duration of 1 to 86,400,000 milliseconds, or the standard one where the key isn't there
abbrev pub or_standard : ℕ → Option Data → Option ℕ
or_standard standard None = Some standard
or_standard standard (Some found) = option_and_then (between 1 86400000) (as_integer found)

unfoldable pub duration_at : ℕ → List ℕ → Data → Option ℕ
duration_at standard key d = or_standard standard (get key d)

unfoldable pub timers_in : Data → Result DurationParts Key
timers_in d = do
  t3510 ← named keys.T3510 (duration_at 15000 (codes "t3510") d)
  t3516 ← named keys.T3516 (duration_at 30000 (codes "t3516") d)
  t3517 ← named keys.T3517 (duration_at 15000 (codes "t3517") d)
  t3521 ← named keys.T3521 (duration_at 15000 (codes "t3521") d)
  t3522 ← named keys.T3522 (duration_at 6000 (codes "t3522") d)
  t3550 ← named keys.T3550 (duration_at 6000 (codes "t3550") d)
  t3555 ← named keys.T3555 (duration_at 6000 (codes "t3555") d)
  t3560 ← named keys.T3560 (duration_at 6000 (codes "t3560") d)
  t3580 ← named keys.T3580 (duration_at 16000 (codes "t3580") d)
  t3581 ← named keys.T3581 (duration_at 16000 (codes "t3581") d)
  t3582 ← named keys.T3582 (duration_at 16000 (codes "t3582") d)
  t3591 ← named keys.T3591 (duration_at 16000 (codes "t3591") d)
  t3592 ← named keys.T3592 (duration_at 16000 (codes "t3592") d)
  Ok (record { t3510 = t3510; t3516 = t3516; t3517 = t3517; t3521 = t3521; t3522 = t3522; t3550 = t3550; t3555 = t3555; t3560 = t3560; t3580 = t3580; t3581 = t3581; t3582 = t3582; t3591 = t3591; t3592 = t3592 })

-- the durations that a document asks for; where it has no such table, the standard ones
abbrev pub timers_of : Option Data → Result DurationParts Key
timers_of None = Ok standard_durations
timers_of (Some found) = do
  table ← named keys.Timers (only_table found)
  timers_in table

unfoldable pub durations_in : Data → Result DurationParts Key
durations_in document = timers_of (get (codes "timers") document)
