-- What a handset's 5GMM keeps between two events (TS 24.501 clause 5.1.3.2.1).
use Rattle.std.specs.Prelude.{Bool, true, false, Option, Some, None, option_map}
use Rattle.nas_base.specs.declared.kind.Kind.{Kind}
use Rattle.nas_base.specs.declared.kind.Kind.TheVariants as kinds
use Rattle.nas_base.specs.declared.state_words.MmWord.{MmWord}
use Rattle.nas_base.specs.declared.state_words.MmWord.TheVariants as words
use Rattle.nas_timers.specs.declared.timer_id.TimerId.{TimerId}
use Rattle.nas_timers.specs.declared.timer_id.TimerId.TheVariants.{T3510, T3517, T3521}
use Rattle.ue_mm.specs.Common.{Common}
use Rattle.ue_mm.specs.Config.{HandsetValues}
use Rattle.ue_mm.specs.declared.procedures.Phase.{Phase}
use Rattle.ue_mm.specs.declared.procedures.Phase.TheVariants.{Deregistered, Registering, Registered, Serving, Deregistering}
use Rattle.ue_mm.specs.declared.procedures.Registration.{Registration}
use Rattle.ue_mm.specs.declared.common.Pending.{Pending}
use Rattle.ue_mm.specs.declared.state.UeMm.{UeMm}
use Rattle.ue_mm.specs.declared.state.UeMm.TheVariants as states
use Rattle.ue_mm.specs.declared.view.UeView.{UeView}

-- what it has in every state, and which state it is, with the procedure that is open in it
pub record MmState : Type 0 where
  pub common : Common
  pub phase : Phase

-- the state of a value
abbrev pub state_of : UeMm → MmState
state_of (states.Deregistered common) = record { common = common; phase = Deregistered }
state_of (states.Registering common procedure) = record { common = common; phase = Registering procedure }
state_of (states.Registered common) = record { common = common; phase = Registered }
state_of (states.Serving common procedure) = record { common = common; phase = Serving procedure }
state_of (states.Deregistering common procedure) = record { common = common; phase = Deregistering procedure }

-- its word; an initial registration began in Deregistered, any other in Registered
abbrev pub registering_word : Kind → MmWord
registering_word kinds.Initial = words.RegisteringNew
registering_word kinds.Mobility = words.RegisteringAgain
registering_word kinds.Periodic = words.RegisteringAgain

abbrev pub word_of : Phase → MmWord
word_of Deregistered = words.Deregistered
word_of (Registering procedure) = registering_word procedure.kind
word_of Registered = words.Registered
word_of (Serving procedure) = words.Serving
word_of (Deregistering procedure) = words.Deregistering

-- the registration that is open, and whether a deregistration is
abbrev pub open_registration : Phase → Option Registration
open_registration Deregistered = None
open_registration (Registering procedure) = Some procedure
open_registration Registered = None
open_registration (Serving procedure) = None
open_registration (Deregistering procedure) = None

abbrev pub is_deregistering : Phase → Bool
is_deregistering Deregistered = false
is_deregistering (Registering procedure) = false
is_deregistering Registered = false
is_deregistering (Serving procedure) = false
is_deregistering (Deregistering procedure) = true

-- the timer of the procedure that is open
abbrev pub timer_of : Phase → Option TimerId
timer_of Deregistered = None
timer_of (Registering procedure) = Some T3510
timer_of Registered = None
timer_of (Serving procedure) = Some T3517
timer_of (Deregistering procedure) = Some T3521

-- Registered, or in a procedure that leaves a handset so unless it is rejected
abbrev pub is_registered : MmWord → Bool
is_registered words.Deregistered = false
is_registered words.RegisteringNew = false
is_registered words.RegisteringAgain = true
is_registered words.Registered = true
is_registered words.Serving = true
is_registered words.Deregistering = false

-- before any event: Deregistered and idle, with nothing but the configuration
abbrev pub first : HandsetValues → MmState
first config = record {
  common = record {
    config = config;
    connected = false;
    secure = false;
    guti = None;
    current = None;
    pending = None;
    stored = None;
    sqn = config.sqn;
  };
  phase = Deregistered;
}

-- what can be seen of it
abbrev pub view_of : MmState → UeView
view_of s = record {
  state = word_of s.phase;
  connected = s.common.connected;
  secure = s.common.secure;
  registered = is_registered (word_of s.phase);
  guti = s.common.guti;
  current = s.common.current;
  pending = option_map (λ (p : Pending). p.challenge) s.common.pending;
  sqn_ms = s.common.sqn;
}
