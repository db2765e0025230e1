-- A step while it goes on.
use Rattle.std.specs.Prelude.{ℕ, List, [], ◌∷◌, ◌++◌, Option, None}
use Rattle.nas_base.specs.Branches.{per, when◌then◌else◌}
use Rattle.nas_timers.specs.Durations.{deadline_after, duration_of}
use Rattle.nas_timers.specs.declared.timer_id.TimerId.{TimerId}
use Rattle.milenage.specs.Home.{HomeRecord}
use Rattle.mm_messages.specs.declared.message.Mm.{Mm}
use Rattle.mm_messages.specs.declared.message.Mm.TheVariants as mm
use Rattle.amf_core.specs.Changes.{CoreState}
use Rattle.amf_core.specs.State.{AmfState, link_in, subscriber_in, with_link, with_subscriber}
use Rattle.amf_core.specs.declared.acts.Act.{Act}
use Rattle.amf_core.specs.declared.acts.Act.TheVariants.{Say, Tell}
use Rattle.amf_core.specs.declared.acts.Protection.{Protection}
use Rattle.amf_core.specs.declared.acts.Protection.TheVariants.{Plain, Ciphered}
use Rattle.amf_core.specs.declared.config.Configured.{Configured}
use Rattle.amf_core.specs.declared.link.Link.{Link}
use Rattle.amf_core.specs.declared.outs.AmfOut.{AmfOut}
use Rattle.amf_core.specs.declared.outs.AmfOut.TheVariants.{Smf, Start, Stop}
use Rattle.amf_core.specs.declared.outs.SmfAsk.{SmfAsk}
use Rattle.amf_core.specs.declared.subscriber.Record.{Record}

-- the moment and the random octets that the step was given, what is kept by now, and what was said so far
pub record Work : Type 0 where
  pub moment : ℕ
  pub rand : List ℕ
  pub amf : AmfState
  pub home : List HomeRecord
  pub acts : List Act

-- what is worked on, beside what was kept before; a row works on the one and leaves the other
pub record Working : Type 0 where
  pub work : Work
  pub before : CoreState

abbrev pub by : (Work → Work) → Working → Working
by row w = record w { work = row w.work }

-- the record of a subscriber, and another in its place
abbrev pub subscriber : List ℕ → Work → Option Record
subscriber supi w = subscriber_in supi w.amf.subscribers

unfoldable pub put : Record → Work → Work
put s w = record w { amf = with_subscriber s w.amf }

-- the record of a link, and another in its place
abbrev pub link_of : ℕ → Work → Link
link_of link w = link_in link w.amf.links

unfoldable pub put_link : Link → Work → Work
put_link l w = record w { amf = with_link l w.amf }

-- the home network from now on
abbrev pub put_home : List HomeRecord → Work → Work
put_home home w = record w { home = home }

-- the subscriber that a link last passed or challenged
abbrev pub subscriber_of_link : ℕ → Work → Option Record
subscriber_of_link link w = per (link_of link w).supi None (λ (supi : List ℕ). subscriber supi w)

-- somebody is told something; a message is to be sent on a link, if there is one
abbrev pub tell : AmfOut → Work → Work
tell out w = record w { acts = w.acts ++ Tell out ∷ [] }

abbrev pub say : ℕ → Protection → Mm → Work → Work
say link protection message w = record w { acts = w.acts ++ Say link protection message ∷ [] }

abbrev pub say_on : Option ℕ → Protection → Mm → Work → Work
say_on on protection message w = per on w (λ (link : ℕ). say link protection message w)

-- What is protected on a secure link and plain on any other: AUTHENTICATION REQUEST and REJECT, IDENTITY REQUEST, REGISTRATION REJECT,
-- SERVICE REJECT and 5GMM STATUS (TS 24.501 clause 4.4.4.3). It is protected for the subscriber whose procedure it belongs to; what
-- belongs to none is protected for the subscriber of its link.
abbrev pub by_link : Link → List ℕ → Protection
by_link l supi = when l.secure then Ciphered supi else Plain

abbrev pub own_protection : Link → Protection
own_protection l = per l.supi Plain (λ (supi : List ℕ). by_link l supi)

-- an answer to an uplink that belongs to no procedure
abbrev pub answer : ℕ → Mm → Work → Work
answer link message w = say link (own_protection (link_of link w)) message w

abbrev pub status : ℕ → ℕ → Work → Work
status link cause w = answer link (mm.FiveGmmStatus (record { cause = cause })) w

abbrev pub reject : ℕ → ℕ → Work → Work
reject link cause w = answer link (mm.RegistrationReject (record { cause = cause })) w

-- one that belongs to the procedure of a subscriber
abbrev pub answer_for : Record → ℕ → Mm → Work → Work
answer_for s link message w = say link (by_link (link_of link w) s.supi) message w

-- what was configured
abbrev pub config_of : Work → Configured
config_of w = w.amf.config

-- a timer of a subscriber is started for its duration, or stopped
abbrev pub start : TimerId → Record → Work → Work
start id s w = tell (Start s.supi id (deadline_after w.moment (duration_of id (config_of w).durations))) w

abbrev pub stop : TimerId → Record → Work → Work
stop id s w = tell (Stop s.supi id) w

-- the SMF is asked something of a subscriber
abbrev pub ask : SmfAsk → Record → Work → Work
ask call s w = tell (Smf (record { supi = s.supi; call = call })) w
