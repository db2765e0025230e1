-- Deregistration, by the handset (TS 24.501 clause 5.5.2.2) and by the network (clause 5.5.2.3).
use Rattle.std.specs.Prelude.{◌+◌, Bool, true, false, nat_lt}
use Rattle.nas_base.specs.Branches.{when◌then◌else◌}
use Rattle.nas_timers.specs.declared.timer_id.TimerId.TheVariants.{T3521}
use Rattle.mm_messages.specs.declared.message.Mm.{Mm}
use Rattle.mm_messages.specs.declared.message.Mm.TheVariants as mm
use Rattle.ue_mm.specs.Config.{HandsetValues}
use Rattle.ue_mm.specs.Connection.{connected, deregistered}
use Rattle.ue_mm.specs.Identification.{identity_of, ksi_of}
use Rattle.ue_mm.specs.Work.{answer, request, start}
use Rattle.ue_mm.specs.declared.procedures.Deregistration.{Deregistration}
use Rattle.ue_mm.specs.declared.procedures.Phase.TheVariants.{Deregistering}
use Rattle.ue_mm.specs.declared.work.Work.{Work}

-- DEREGISTRATION REQUEST of the handset
abbrev pub deregistration_request : HandsetValues → Bool → Deregistration → Mm
deregistration_request config switch_off p =
    mm.DeregistrationRequestUeOriginating (record { switch_off = switch_off; ksi = p.ksi; identity = identity_of config p.guti })

-- The command. A handset that is switched off waits for no answer.
abbrev pub deregistering : Deregistration → Work → Work
deregistering p w =
    start T3521 (record (connected (request (deregistration_request w.common.config false p) w)) { phase = Deregistering p })

abbrev pub leaving : Work → Deregistration
leaving w = record { ksi = ksi_of w.common.current; guti = w.common.guti; sendings = 1 }

unfoldable pub deregister : Bool → Work → Work
deregister true w = deregistered (request (deregistration_request w.common.config true (leaving w)) w)
deregister false w = deregistering (leaving w) w

-- T3521: the same request again, four times; at its fifth expiry the procedure ends
unfoldable pub deregistration_expired : Deregistration → Work → Work
deregistration_expired p w =
    when nat_lt p.sendings 5 then deregistering (record p { sendings = p.sendings + 1 }) w else deregistered w

-- DEREGISTRATION REQUEST of the network
unfoldable pub deregistration_requested : Work → Work
deregistration_requested w = deregistered (answer mm.DeregistrationAcceptUeTerminated w)
