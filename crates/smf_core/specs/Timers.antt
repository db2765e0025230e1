-- Timers that expire (TS 24.501 clauses 6.3.2.5 and 6.3.3.5).
use Rattle.std.specs.Prelude.{ℕ, ◌+◌, Bool, nat_lt, Some}
use Rattle.nas_base.specs.Branches.{per, when◌then◌else◌}
use Rattle.nas_timers.specs.declared.timer_id.TimerId.{TimerId}
use Rattle.nas_timers.specs.declared.timer_id.TimerId.TheVariants.{T3510, T3516, T3517, T3521, T3522, T3550, T3555, T3560, T3580, T3581, T3582, T3591, T3592}
use Rattle.sm_messages.specs.Session.{SessionValues}
use Rattle.smf_core.specs.Release.{releasing, removed}
use Rattle.smf_core.specs.Work.{Working, give_out, held}
use Rattle.smf_core.specs.declared.held.Command.{Command}
use Rattle.smf_core.specs.declared.held.Held.{Held}
use Rattle.smf_core.specs.declared.held.Modification.{Modification}
use Rattle.smf_core.specs.declared.held.Phase.{Phase}
use Rattle.smf_core.specs.declared.held.Phase.TheVariants.{Active, Modifying, Settling, Releasing}

-- A command is sent five times at most.
abbrev pub is_left : ℕ → Bool
is_left sendings = nat_lt sendings 5

-- the same command again
abbrev pub again : Command → Command
again c = record c { sendings = c.sendings + 1 }

-- T3591: the same command again, four times; at its fifth expiry the session is released
abbrev pub modification_expired : Modification → ℕ → SessionValues → Working → Working
modification_expired m psi session w =
    when is_left m.command.sendings
    then give_out m.command.message m.command.timer psi
    (record { session = session; phase = Modifying (record m { command = again m.command }) }) w
    else releasing psi 0 (Some m.command.timer) session w

-- T3592: the same command again, four times; at its fifth expiry the session is removed
abbrev pub release_expired : Command → ℕ → SessionValues → Working → Working
release_expired c psi session w =
    when is_left c.sendings
    then give_out c.message c.timer psi (record { session = session; phase = Releasing (again c) }) w
    else removed psi w

-- A timer whose command is no longer open finds no owner.
abbrev pub of_modifying : Phase → ℕ → SessionValues → Working → Working
of_modifying (Modifying m) psi session w = modification_expired m psi session w
of_modifying (Active last) psi session w = w
of_modifying (Settling last) psi session w = w
of_modifying (Releasing command) psi session w = w

abbrev pub of_releasing : Phase → ℕ → SessionValues → Working → Working
of_releasing (Releasing command) psi session w = release_expired command psi session w
of_releasing (Active last) psi session w = w
of_releasing (Modifying m) psi session w = w
of_releasing (Settling last) psi session w = w

unfoldable pub expired : TimerId → Working → Working
expired (T3591 psi) w = per (held psi w) w (λ (h : Held). of_modifying h.phase psi h.session w)
expired (T3592 psi) w = per (held psi w) w (λ (h : Held). of_releasing h.phase psi h.session w)
expired T3510 w = w
expired T3516 w = w
expired T3517 w = w
expired T3521 w = w
expired T3522 w = w
expired T3550 w = w
expired T3555 w = w
expired T3560 w = w
expired (T3580 psi) w = w
expired (T3581 psi) w = w
expired (T3582 psi) w = w
