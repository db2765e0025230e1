-- What an SMF keeps of a session (TS 24.501 clause 6.1.3.3).
use Rattle.std.specs.Prelude.{ℕ, Bool, true, false, Option, Some, None}
use Rattle.nas_base.specs.declared.state_words.SmfWord.{SmfWord}
use Rattle.nas_base.specs.declared.state_words.SmfWord.TheVariants as words
use Rattle.nas_timers.specs.declared.timer_id.TimerId.{TimerId}
use Rattle.sm_messages.specs.Session.{SessionValues}
use Rattle.sm_messages.specs.declared.message.Sm.{Sm}
use Rattle.sm_messages.specs.declared.message.Sm.TheVariants as sm
use Rattle.smf_core.specs.declared.held.Held.{Held}
use Rattle.smf_core.specs.declared.held.LastCommand.{LastCommand}
use Rattle.smf_core.specs.declared.held.Phase.{Phase}
use Rattle.smf_core.specs.declared.held.Phase.TheVariants.{Active, Modifying, Settling, Releasing}

-- the word of its state
abbrev pub word_of : Phase → SmfWord
word_of (Active last) = words.Active
word_of (Modifying m) = words.Modifying
word_of (Settling last) = words.Settling
word_of (Releasing command) = words.Releasing

-- the timer of the command that is open, MODIFICATION COMMAND or RELEASE COMMAND
abbrev pub timer_of : Phase → Option TimerId
timer_of (Active last) = None
timer_of (Modifying m) = Some m.command.timer
timer_of (Settling last) = None
timer_of (Releasing command) = Some command.timer

-- how often its last command was given out, 0 where it has had none
abbrev pub given_out : Option LastCommand → ℕ
given_out None = 0
given_out (Some last) = last.sendings

abbrev pub sent_of : Phase → ℕ
sent_of (Active last) = given_out last
sent_of (Modifying m) = m.command.sendings
sent_of (Settling last) = last.sendings
sent_of (Releasing command) = command.sendings

-- what can be seen of a session
pub record SeenSession : Type 0 where
  pub psi : ℕ
  pub state : SmfWord
  pub sent : ℕ
  pub session : SessionValues

abbrev pub seen_as : ℕ → Held → SeenSession
seen_as psi h = record { psi = psi; state = word_of h.phase; sent = sent_of h.phase; session = h.session }

-- a kept answer is ESTABLISHMENT ACCEPT, and not ESTABLISHMENT REJECT
abbrev pub is_accept : Sm → Bool
is_accept (sm.PduSessionEstablishmentAccept m) = true
is_accept message = false
