-- The answers to AUTHENTICATION REQUEST (TS 24.501 clauses 5.4.1.3.4 to 5.4.1.3.7).
use Rattle.std.specs.Prelude.{ℕ, Bool, true, false, ◌==◌, ◌||◌, List, Option, Some, None, Result, Ok, Err}
use Rattle.std.specs.Str.{bytes_eq}
use Rattle.nas_base.specs.Branches.{per, when◌then◌else◌}
use Rattle.nas_base.specs.declared.mm_cause.TheConstants as cause
use Rattle.key_chain.specs.Keys.{nas_keys}
use Rattle.milenage.specs.Home.{resync_of, resynced}
use Rattle.nas_security.specs.Contexts.{SecurityContext}
use Rattle.mm_messages.specs.declared.authentication.AuthenticationFailure.{AuthenticationFailure}
use Rattle.mm_messages.specs.declared.authentication.AuthenticationResponse.{AuthenticationResponse}
use Rattle.mm_messages.specs.declared.message.Mm.TheVariants as mm
use Rattle.amf_core.specs.Challenges.{challenge, challenge_open, challenge_put, ended}
use Rattle.amf_core.specs.Registration.{is_on}
use Rattle.amf_core.specs.Work.{Work, answer_for, put_home}
use Rattle.amf_core.specs.Answers.{AuthenticationValues}
use Rattle.amf_core.specs.declared.authentication.Asking.{Asking}
use Rattle.amf_core.specs.declared.procedures.Challenging.{Challenging}
use Rattle.amf_core.specs.declared.procedures.Phase.{Phase}
use Rattle.amf_core.specs.declared.procedures.Phase.TheVariants.{Auth, Mode}
use Rattle.amf_core.specs.declared.procedures.Procedure.{Procedure}
use Rattle.amf_core.specs.declared.procedures.Procedure.TheVariants as procedures
use Rattle.amf_core.specs.declared.procedures.Purpose.{Purpose}
use Rattle.amf_core.specs.declared.procedures.Purpose.TheVariants.{Registration, Command}
use Rattle.amf_core.specs.declared.subscriber.Record.{Record}

-- The challenge that waits for the answer to its AUTHENTICATION REQUEST, which is taken on its own link alone.
abbrev pub asking_in : Phase → Challenging → Option Asking
asking_in (Auth a) c = Some (record { challenging = c; auth = a })
asking_in (Mode context) c = None

unfoldable pub asking_on : ℕ → Procedure → Option Asking
asking_on link (procedures.Challenging c) = when is_on link c.link then asking_in c.phase c else None
asking_on link procedures.Idle = None
asking_on link (procedures.Accepting a) = None
asking_on link (procedures.Updating u) = None
asking_on link (procedures.Deregistering d) = None

-- the context of a challenge that was answered: its keys for the chosen algorithms, and counts 0
abbrev pub made : AuthenticationValues → SecurityContext
made a = record {
  challenge = a.challenge;
  ksi = a.ksi;
  kamf = a.kamf;
  algs = record { nea = a.nea; nia = 2 };
  keys = nas_keys a.kamf a.nea 2;
  up = 0;
  down = 0;
}

-- RES* is right: the context is commanded, and the sendings are counted anew
abbrev pub commanding : Asking → Challenging
commanding o = record o.challenging { phase = Mode (made o.auth); sendings = 1 }

abbrev pub mode_commanded : Asking → Record → Work → Work
mode_commanded o s w = challenge_put (commanding o) (challenge_open (commanding o) s) w

abbrev pub authentication_rejected : ℕ → Record → Work → Work
authentication_rejected link s w = answer_for s link mm.AuthenticationReject (ended s w)

abbrev pub is_expected : Option (List ℕ) → AuthenticationValues → Bool
is_expected res_star a = per res_star false (λ (octets : List ℕ). bytes_eq octets a.res_star)

-- AUTHENTICATION RESPONSE
abbrev pub answered : AuthenticationResponse → ℕ → Asking → Record → Work → Work
answered m link o s w =
    when is_expected m.res_star o.auth then mode_commanded o s w else authentication_rejected link s w

unfoldable pub responded : AuthenticationResponse → ℕ → Record → Work → Work
responded m link s w = per (asking_on link s.procedure) w (λ (o : Asking). answered m link o s w)

-- A challenge takes the place of another, for the same purpose: for a registration on the same link, for a command on the link that the
-- subscriber has by now.
abbrev pub next_link : Purpose → Challenging → Record → Option ℕ
next_link (Registration request) c s = c.link
next_link Command c s = s.link

abbrev pub challenged_again : Challenging → Record → Work → Work
challenged_again c s w = challenge c.purpose (next_link c.purpose c s) None s w

-- an AUTS that is right brings SQN_HE up to SQN_MS
abbrev pub is_right : {E : Type 0} → Result Unit E → Bool
is_right (Ok done) = true
is_right (Err refusal) = false

abbrev pub resynchronised : List ℕ → Asking → Record → Work → Work
resynchronised auts o s w =
    let rand : List ℕ = o.auth.challenge.rand in
    when is_right (resync_of s.supi rand auts w.home)
    then challenged_again o.challenging s (put_home (resynced s.supi rand auts w.home) w) else w

-- MAC failure and non-5G authentication unacceptable end the challenge; synch failure and ngKSI already in use are followed by another
abbrev pub failed_by : AuthenticationFailure → ℕ → Asking → Record → Work → Work
failed_by m link o s w =
    when m.cause == cause.MAC_FAILURE || m.cause == cause.NON_5G_AUTHENTICATION_UNACCEPTABLE then authentication_rejected link s w
    else (when m.cause == cause.SYNCH_FAILURE then per m.auts w (λ (auts : List ℕ). resynchronised auts o s w)
    else (when m.cause == cause.NGKSI_ALREADY_IN_USE then challenged_again o.challenging s w else w))

-- AUTHENTICATION FAILURE
unfoldable pub authentication_failed : AuthenticationFailure → ℕ → Record → Work → Work
authentication_failed m link s w =
    per (asking_on link s.procedure) w (λ (o : Asking). failed_by m link o s w)
