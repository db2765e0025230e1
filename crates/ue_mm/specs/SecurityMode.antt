-- Security mode control (TS 24.501 clause 5.4.2, TS 33.501 clause 6.7.2).
use Rattle.std.specs.Prelude.{ℕ, Bool, true, false, ◌==◌, ◌&&◌, ◌||◌, List, Option, Some, None, option_map}
use Rattle.std.specs.Str.{bytes_eq}
use Rattle.nas_base.specs.declared.count.Dir.TheVariants.{Down}
use Rattle.nas_base.specs.Branches.{per, when◌then◌else◌}
use Rattle.nas_base.specs.declared.mm_cause.TheConstants as cause
use Rattle.key_chain.specs.Keys.{nas_keys}
use Rattle.nas_elements.specs.Algs.{Algorithms}
use Rattle.nas_elements.specs.Asi.{is_whole_message_wanted}
use Rattle.nas_elements.specs.Capability.{has_ea, has_ia}
use Rattle.nas_elements.specs.declared.asi.Asi.{Asi}
use Rattle.nas_security.specs.Contexts.{SecurityContext}
use Rattle.nas_timers.specs.declared.timer_id.TimerId.TheVariants.{T3516}
use Rattle.mm_messages.specs.Messages.{spelling}
use Rattle.mm_messages.specs.declared.message.Mm.TheVariants as mm
use Rattle.mm_messages.specs.declared.security_mode.SecurityModeCommand.{SecurityModeCommand}
use Rattle.mm_entity.specs.Opening.{Opened, opened, with_count}
use Rattle.ue_mm.specs.Checks.{counted, noted}
use Rattle.ue_mm.specs.Config.{HandsetValues}
use Rattle.ue_mm.specs.Registration.{registration_request, told_sessions}
use Rattle.ue_mm.specs.State.{is_deregistering, open_registration}
use Rattle.ue_mm.specs.Work.{answer, say, stop, tell}
use Rattle.ue_mm.specs.declared.acts.Protection.TheVariants.{CipheredWithNewContext}
use Rattle.ue_mm.specs.declared.common.Pending.{Pending}
use Rattle.ue_mm.specs.declared.outs.UeOut.TheVariants.{Abandon, Took}
use Rattle.ue_mm.specs.declared.procedures.Registration.{Registration}
use Rattle.ue_mm.specs.declared.work.Work.{Work}

-- the algorithms that a handset supports: 128-NIA2, and 128-NEA2 or no ciphering
abbrev pub are_supported : Algorithms → Bool
are_supported algs = algs.nia == 2 && (algs.nea == 0 || algs.nea == 2)

-- SECURITY MODE COMPLETE holds the whole registration request where the command asks for it and a registration is open
abbrev pub whole_request : HandsetValues → Registration → List Bool → List ℕ
whole_request config r held = spelling (registration_request config r (told_sessions r.kind held))

abbrev pub is_wanted : Option Asi → Bool
is_wanted asi = per asi false is_whole_message_wanted

abbrev pub wanted_request : Bool → Work → Option (List ℕ)
wanted_request wanted w =
    when wanted then option_map (λ (r : Registration). whole_request w.common.config r w.held) (open_registration w.phase) else None

unfoldable pub command_completed : Option Asi → Work → Work
command_completed asi w =
    say false CipheredWithNewContext (mm.SecurityModeComplete (record { message = wanted_request (is_wanted asi) w })) w

-- the capability that is told back is the handset's, and has the algorithms
abbrev pub is_acceptable : SecurityModeCommand → HandsetValues → Bool
is_acceptable command config =
    bytes_eq command.capability config.capability && has_ea command.algs.nea config.capability && has_ia command.algs.nia config.capability

-- the context of a pending key, with the keys of the algorithms and counts 0
abbrev pub made : Pending → Algorithms → SecurityContext
made p algs = record {
  challenge = p.challenge;
  ksi = p.ksi;
  kamf = p.kamf;
  algs = algs;
  keys = nas_keys p.kamf algs.nea algs.nia;
  up = 0;
  down = 0;
}

-- the command is accepted: its context is taken into use
abbrev pub taken_into_use : SecurityModeCommand → SecurityContext → Work → Work
taken_into_use command context w =
    command_completed command.asi (tell Abandon (stop T3516 (tell (Took context)
    (record w { common = record w.common { secure = true; current = Some context; pending = None; stored = None } }))))

-- A command that passed under a pending key. One that isn't acceptable leaves the connection as secure as it was.
unfoldable pub command_passed : SecurityModeCommand → SecurityContext → Work → Work
command_passed command context w =
    when is_acceptable command w.common.config then taken_into_use command context w
    else answer (mm.SecurityModeReject (record { cause = cause.UE_SECURITY_CAPABILITIES_MISMATCH })) (record w { common = record w.common { pending = None } })

abbrev pub command_under_pending : SecurityModeCommand → SecurityContext → List ℕ → Work → Work
command_under_pending command context octets w =
    per (opened context Down octets) w (λ (o : Opened). command_passed command (with_count context Down o.count) (noted context o.count w))

-- A command that passed under the current context is taken as sent again, and its answer as lost. Nothing of it is compared again.
abbrev pub command_repeated : SecurityModeCommand → Work → Work
command_repeated command w = when is_deregistering w.phase then w else command_completed command.asi w

abbrev pub command_under_current : SecurityModeCommand → SecurityContext → List ℕ → Work → Work
command_under_current command context octets w =
    per (opened context Down octets) w (λ (o : Opened). command_repeated command (counted context o.count w))

-- the ngKSI picks the pending key, which no command takes while the handset deregisters, or the current context
abbrev pub picked_pending : ℕ → Work → Option Pending
picked_pending ksi w =
    when is_deregistering w.phase then None
    else per w.common.pending None (λ (p : Pending). when p.ksi == ksi then Some p else None)

abbrev pub picked_current : ℕ → Work → Option SecurityContext
picked_current ksi w =
    per w.common.current None (λ (context : SecurityContext). when context.ksi == ksi then Some context else None)

abbrev pub command_picked : SecurityModeCommand → List ℕ → Work → Work
command_picked command octets w =
    per (picked_pending command.ksi w)
    (per (picked_current command.ksi w) w (λ (context : SecurityContext). command_under_current command context octets w))
    (λ (p : Pending). command_under_pending command (made p command.algs) octets w)

-- A frame of header type 3 is read inside, since its command tells the algorithms that its keys are made for.
unfoldable pub security_mode_commanded : SecurityModeCommand → List ℕ → Work → Work
security_mode_commanded command octets w = when are_supported command.algs then command_picked command octets w else w
