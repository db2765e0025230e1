-- Of a connection that ends, and of a handset that is no longer registered.
use Rattle.std.specs.Prelude.{true, false, None}
use Rattle.nas_timers.specs.declared.timer_id.TimerId.TheVariants.{T3510, T3516, T3517, T3521}
use Rattle.ue_mm.specs.Work.{stop, tell}
use Rattle.ue_mm.specs.declared.outs.UeOut.TheVariants.{Abandon, Clear}
use Rattle.ue_mm.specs.declared.procedures.Phase.TheVariants.{Deregistered}
use Rattle.ue_mm.specs.declared.work.Work.{Work}

-- a connection for a message that is sent
abbrev pub connected : Work → Work
connected w = record w { common = record w.common { connected = true } }

-- the connection is gone, and with it what the sessions have under way
unfoldable pub idle : Work → Work
idle w = tell Abandon (record w { common = record w.common { connected = false; secure = false } })

-- Deregistered: every timer of 5GMM is stopped, the stored answer is dropped, and the sessions are inactive. The 5G-GUTI and the
-- contexts stay.
unfoldable pub deregistered : Work → Work
deregistered w =
    tell Clear (idle (stop T3521 (stop T3517 (stop T3516 (stop T3510
    (record w { phase = Deregistered; common = record w.common { stored = None } }))))))

-- the 5G-GUTI and the contexts are dropped too (clauses 5.4.1.3.5, 5.5.1.2.5, 5.5.1.3.5 and 5.6.1.5)
unfoldable pub erased : Work → Work
erased w = record w { common = record w.common { guti = None; current = None; pending = None } }
