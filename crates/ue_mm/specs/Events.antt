-- Timers that expire, a connection that is lost, and a restart.
use Rattle.std.specs.Prelude.{None}
use Rattle.nas_timers.specs.declared.timer_id.TimerId.{TimerId}
use Rattle.nas_timers.specs.declared.timer_id.TimerId.TheVariants.{T3510, T3516, T3517, T3521, T3522, T3550, T3555, T3560, T3580, T3581, T3582, T3591, T3592}
use Rattle.ue_mm.specs.Connection.{deregistered, erased, idle}
use Rattle.ue_mm.specs.Deregistration.{deregistration_expired}
use Rattle.ue_mm.specs.Registration.{registration_left}
use Rattle.ue_mm.specs.Work.{stop}
use Rattle.ue_mm.specs.declared.procedures.Phase.{Phase}
use Rattle.ue_mm.specs.declared.procedures.Phase.TheVariants.{Deregistered, Registering, Registered, Serving, Deregistering}
use Rattle.ue_mm.specs.declared.work.Work.{Work}

-- T3510 and T3517 end what they belong to, where it is open, and T3521 does at its fifth expiry (TS 24.501 clauses 5.5.1.2.7,
-- 5.5.1.3.7, 5.6.1.7 and 5.5.2.2.6). A timer that expires has stopped. T3516 ends the time that a repeated challenge gets the same answer (clause 5.4.1.3.3)
abbrev pub registration_expired : Phase → Work → Work
registration_expired (Registering r) w = registration_left r.kind w
registration_expired Deregistered w = w
registration_expired Registered w = w
registration_expired (Serving p) w = w
registration_expired (Deregistering p) w = w

abbrev pub service_expired : Phase → Work → Work
service_expired (Serving p) w = idle (record w { phase = Registered })
service_expired Deregistered w = w
service_expired (Registering r) w = w
service_expired Registered w = w
service_expired (Deregistering p) w = w

abbrev pub leaving_expired : Phase → Work → Work
leaving_expired (Deregistering p) w = deregistration_expired p w
leaving_expired Deregistered w = w
leaving_expired (Registering r) w = w
leaving_expired Registered w = w
leaving_expired (Serving p) w = w

unfoldable pub expired : TimerId → Work → Work
expired T3510 w = registration_expired w.phase w
expired T3516 w = record w { common = record w.common { stored = None } }
expired T3517 w = service_expired w.phase w
expired T3521 w = leaving_expired w.phase w
expired T3522 w = w
expired T3550 w = w
expired T3555 w = w
expired T3560 w = w
expired (T3580 psi) w = w
expired (T3581 psi) w = w
expired (T3582 psi) w = w
expired (T3591 psi) w = w
expired (T3592 psi) w = w

-- The connection is lost: what is open ends as if it had expired, and a deregistration as if it were accepted.
abbrev pub lost : Phase → Work → Work
lost Deregistered w = w
lost (Registering r) w = registration_left r.kind (stop T3510 w)
lost Registered w = idle w
lost (Serving p) w = idle (record (stop T3517 w) { phase = Registered })
lost (Deregistering p) w = deregistered w

unfoldable pub dropped : Work → Work
dropped w = lost w.phase w

-- a restart leaves the configuration, and SQN_MS, which the card keeps
unfoldable pub restarted : Work → Work
restarted w = erased (deregistered w)
