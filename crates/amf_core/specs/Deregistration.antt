-- De-registration, by the handset and by the network (TS 24.501 clauses 5.5.2.2 and 5.5.2.3).
use Rattle.std.specs.Prelude.{ℕ, Bool, true, false, ◌&&◌, None}
use Rattle.nas_base.specs.Branches.{when◌then◌else◌}
use Rattle.nas_timers.specs.declared.timer_id.TimerId.TheVariants.{T3522}
use Rattle.mm_messages.specs.declared.deregistration.DeregistrationRequestUeOriginating.{DeregistrationRequestUeOriginating}
use Rattle.mm_messages.specs.declared.message.Mm.TheVariants as mm
use Rattle.amf_core.specs.Challenges.{stopped}
use Rattle.amf_core.specs.Registration.{is_on}
use Rattle.amf_core.specs.Work.{Work, ask, put, say, say_on, start}
use Rattle.amf_core.specs.declared.acts.Protection.TheVariants.{Ciphered}
use Rattle.amf_core.specs.declared.outs.SmfAsk.TheVariants.{ReleaseAll}
use Rattle.amf_core.specs.declared.procedures.Deregistering.{Deregistering}
use Rattle.amf_core.specs.declared.procedures.Procedure.{Procedure}
use Rattle.amf_core.specs.declared.procedures.Procedure.TheVariants as procedures
use Rattle.amf_core.specs.declared.subscriber.Record.{Record}

-- Not registered: whatever is open ends, and the sessions are released. The contexts and the kept 5G-GUTIs stay.
abbrev pub unregistered : Record → Record
unregistered s = record s { procedure = procedures.Idle; registered = false }

unfoldable pub deregistered : Record → Work → Work
deregistered s w = ask ReleaseAll s (put (unregistered s) (stopped s w))

-- DEREGISTRATION REQUEST of the handset, which passed; it is answered unless the handset is switched off
unfoldable pub deregistration_requested : DeregistrationRequestUeOriginating → ℕ → Record → Work → Work
deregistration_requested m link s w =
    when m.switch_off then deregistered s w
    else say link (Ciphered s.supi) mm.DeregistrationAcceptUeOriginating (deregistered s w)

-- DEREGISTRATION ACCEPT of the handset, on the subscriber's link, while the network waits for it
abbrev pub is_deregistering : Procedure → Bool
is_deregistering (procedures.Deregistering d) = true
is_deregistering procedures.Idle = false
is_deregistering (procedures.Challenging c) = false
is_deregistering (procedures.Accepting a) = false
is_deregistering (procedures.Updating u) = false

unfoldable pub deregistration_accepted : ℕ → Record → Work → Work
deregistration_accepted link s w = when is_deregistering s.procedure && is_on link s.link then deregistered s w else w

-- DEREGISTRATION REQUEST of the network, without switch off and without a cause
abbrev pub deregistration_sent : Record → Work → Work
deregistration_sent s w =
    say_on s.link (Ciphered s.supi) (mm.DeregistrationRequestUeTerminated (record { switch_off = false; cause = None })) w

abbrev pub deregistration_put : Deregistering → Record → Work → Work
deregistration_put d s w =
    start T3522 s (deregistration_sent s (put (record s { procedure = procedures.Deregistering d }) w))
