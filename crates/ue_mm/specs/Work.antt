-- A step while it goes on: the moment and the sessions that it was given, what is kept, and what was said so far.
use Rattle.std.specs.Prelude.{ℕ, Bool, false, not, [], ◌∷◌, ◌++◌}
use Rattle.nas_base.specs.Branches.{per, when◌then◌else◌}
use Rattle.nas_timers.specs.Durations.{deadline_after, duration_of}
use Rattle.nas_timers.specs.declared.timer_id.TimerId.{TimerId}
use Rattle.mm_messages.specs.declared.message.Mm.{Mm}
use Rattle.mm_messages.specs.declared.message.Mm.TheVariants as mm
use Rattle.nas_security.specs.Contexts.{SecurityContext}
use Rattle.ue_mm.specs.Common.{Common}
use Rattle.ue_mm.specs.declared.acts.Act.TheVariants.{Say, Tell}
use Rattle.ue_mm.specs.declared.acts.Protection.{Protection}
use Rattle.ue_mm.specs.declared.acts.Protection.TheVariants.{Plain, IntegrityProtected, Ciphered}
use Rattle.ue_mm.specs.declared.outs.UeOut.{UeOut}
use Rattle.ue_mm.specs.declared.outs.UeOut.TheVariants.{Start, Stop}
use Rattle.ue_mm.specs.declared.work.Work.{Work}

-- a message is to be sent; somebody is told something
abbrev pub say : Bool → Protection → Mm → Work → Work
say fresh protection message w = record w { acts = w.acts ++ Say fresh protection message ∷ [] }

abbrev pub tell : UeOut → Work → Work
tell out w = record w { acts = w.acts ++ Tell out ∷ [] }

-- An answer is protected on a secure connection, and plain on any other (TS 24.501 clause 4.4.4.1).
abbrev pub answer_protection : Common → Protection
answer_protection c = when c.secure then Ciphered else Plain

abbrev pub answer : Mm → Work → Work
answer message w = say false (answer_protection w.common) message w

abbrev pub status : ℕ → Work → Work
status n w = answer (mm.FiveGmmStatus (record { cause = n })) w

-- A request of the handset's own is integrity protected alone where a context is current, so that the network can read who asks,
-- and plain where none is (clause 4.4.6). It is fresh where it is the first message of its connection.
abbrev pub request_protection : Common → Protection
request_protection c = per c.current Plain (λ (context : SecurityContext). IntegrityProtected)

abbrev pub request : Mm → Work → Work
request message w = say (not w.common.connected) (request_protection w.common) message w

-- a timer is started for its duration, or stopped
abbrev pub start : TimerId → Work → Work
start id w = tell (Start id (deadline_after w.moment (duration_of id w.common.config.durations))) w

abbrev pub stop : TimerId → Work → Work
stop id w = tell (Stop id) w
