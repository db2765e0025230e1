-- Service requests (TS 24.501 clause 5.6.1).
use Rattle.std.specs.Prelude.{◌==◌, None}
use Rattle.nas_base.specs.Branches.{when◌then◌else◌}
use Rattle.nas_base.specs.declared.mm_cause.TheConstants as cause
use Rattle.nas_timers.specs.declared.timer_id.TimerId.TheVariants.{T3517}
use Rattle.mm_messages.specs.declared.message.Mm.{Mm}
use Rattle.mm_messages.specs.declared.message.Mm.TheVariants as mm
use Rattle.mm_messages.specs.declared.service.ServiceReject.{ServiceReject}
use Rattle.ue_mm.specs.Config.{HandsetValues}
use Rattle.ue_mm.specs.Connection.{connected, deregistered, erased}
use Rattle.ue_mm.specs.Identification.{ksi_of, short_identity_of}
use Rattle.ue_mm.specs.Work.{request, start, stop}
use Rattle.ue_mm.specs.declared.procedures.Phase.TheVariants.{Registered, Serving}
use Rattle.ue_mm.specs.declared.procedures.Service.{Service}
use Rattle.ue_mm.specs.declared.work.Work.{Work}

-- SERVICE REQUEST of service type 0, signalling (clause 9.11.3.50)
abbrev pub service_request : HandsetValues → Service → Mm
service_request config p =
    mm.ServiceRequest (record { ksi = p.ksi; service_type = 0; identity = short_identity_of config p.guti; status = None })

-- the command
abbrev pub serving : Service → Work → Work
serving p w = start T3517 (record (connected (request (service_request w.common.config p) w)) { phase = Serving p })

unfoldable pub serve : Work → Work
serve w = serving (record { ksi = ksi_of w.common.current; guti = w.common.guti }) w

-- SERVICE ACCEPT
unfoldable pub service_accepted : Work → Work
service_accepted w = record (stop T3517 w) { phase = Registered }

-- SERVICE REJECT: where the UE identity cannot be derived nothing of the network's is kept, and implicitly deregistered says so;
-- after another cause the handset stays registered
unfoldable pub service_rejected : ServiceReject → Work → Work
service_rejected m w =
    when m.cause == cause.UE_IDENTITY_CANNOT_BE_DERIVED_BY_THE_NETWORK then erased (deregistered w)
    else (when m.cause == cause.IMPLICITLY_DEREGISTERED then deregistered w else service_accepted w)
