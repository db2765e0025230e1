-- Challenges: how one starts, what is sent of it, and how a procedure ends (TS 24.501 clauses 5.4.1.3 and 5.4.2, TS 33.501 clause 6.1.3.2).
use Rattle.std.specs.Prelude.{ℕ, ◌<◌, ◌^◌, Bool, false, not, ◌==◌, ◌&&◌, ◌||◌, List, [], ◌∷◌, Option, Some, None, Result, Ok, Err, if◌then◌else◌}
use Rattle.nas_base.specs.Branches.{per}
use Rattle.nas_base.specs.declared.mm_cause.TheConstants as cause
use Rattle.key_chain.specs.Keys.{abba, challenge_kamf, res_star}
use Rattle.milenage.specs.Home.{challenge_of, challenged}
use Rattle.milenage.specs.declared.home.HomeRefusal.{HomeRefusal}
use Rattle.milenage.specs.declared.vector.Vector.{Vector}
use Rattle.nas_elements.specs.Capability.{has_ea}
use Rattle.nas_elements.specs.declared.asi.Asi.{Asi}
use Rattle.nas_security.specs.Contexts.{SecurityContext}
use Rattle.nas_timers.specs.declared.timer_id.TimerId.TheVariants.{T3522, T3550, T3555, T3560}
use Rattle.mm_messages.specs.declared.authentication.AuthenticationRequest.{AuthenticationRequest}
use Rattle.mm_messages.specs.declared.message.Mm.TheVariants as mm
use Rattle.mm_messages.specs.declared.security_mode.SecurityModeCommand.{SecurityModeCommand}
use Rattle.amf_core.specs.declared.config.Configured.{Configured}
use Rattle.amf_core.specs.Work.{Work, by_link, config_of, link_of, put, put_home, put_link, reject, say, say_on, start, stop}
use Rattle.amf_core.specs.declared.acts.Protection.TheVariants.{IntegrityProtectedWithNewContext}
use Rattle.amf_core.specs.Answers.{AuthenticationValues}
use Rattle.amf_core.specs.declared.procedures.Challenging.{Challenging}
use Rattle.amf_core.specs.declared.procedures.Phase.{Phase}
use Rattle.amf_core.specs.declared.procedures.Phase.TheVariants.{Auth, Mode}
use Rattle.amf_core.specs.declared.procedures.Procedure.{Procedure}
use Rattle.amf_core.specs.declared.procedures.Procedure.TheVariants as procedures
use Rattle.amf_core.specs.declared.procedures.Purpose.{Purpose}
use Rattle.amf_core.specs.declared.procedures.Purpose.TheVariants.{Registration, Command}
use Rattle.amf_core.specs.declared.subscriber.Record.{Record}

-- A procedure ends: its timer is stopped.
abbrev pub stopped_of : Procedure → Record → Work → Work
stopped_of procedures.Idle s w = w
stopped_of (procedures.Challenging c) s w = stop T3560 s w
stopped_of (procedures.Accepting a) s w = stop T3550 s w
stopped_of (procedures.Updating u) s w = stop T3555 s w
stopped_of (procedures.Deregistering d) s w = stop T3522 s w

unfoldable pub stopped : Record → Work → Work
stopped s w = stopped_of s.procedure s w

abbrev pub idle : Record → Record
idle s = record s { procedure = procedures.Idle }

unfoldable pub ended : Record → Work → Work
ended s w = put (idle s) (stopped s w)

-- A new ngKSI is neither that of the context in use nor the last one used: the least one left is 0, 1 or 2.
abbrev pub is_ksi_taken : ℕ → Record → Bool
is_ksi_taken ksi s =
    per s.in_use false (λ context. context.ksi == ksi) || per s.last_ksi false (λ last. last == ksi)

unfoldable pub new_ksi : Record → ℕ
new_ksi s = if not (is_ksi_taken 0 s) then 0 else (if not (is_ksi_taken 1 s) then 1 else 2)

-- The capability that counts where none was told has no algorithm.
abbrev pub no_algorithm : List ℕ
no_algorithm = 0 ∷ 0 ∷ []

abbrev pub capability_of : Record → List ℕ
capability_of s = per s.capability no_algorithm (λ (capability : List ℕ). capability)

-- 128-NEA2 where the handset can't do without ciphering, or where it can cipher by it and the network prefers to
abbrev pub chosen_nea : Configured → List ℕ → ℕ
chosen_nea config capability = if not (has_ea 0 capability) || (has_ea 2 capability && config.nea == 2) then 2 else 0

-- KAMF of a vector
abbrev pub kamf_of : Configured → List ℕ → Vector → List ℕ
kamf_of config supi v = challenge_kamf v.ck v.ik v.autn config.plmn supi abba

-- what the answer to a vector is compared with, and what comes of it
abbrev pub authentication : Configured → Vector → Record → AuthenticationValues
authentication config v s = record {
  challenge = record { sqn = v.sqn; rand = v.rand };
  ksi = new_ksi s;
  autn = v.autn;
  res_star = res_star v.ck v.ik config.plmn v.rand v.res;
  kamf = kamf_of config s.supi v;
  nea = chosen_nea config (capability_of s);
}

-- What is sent of a challenge: AUTHENTICATION REQUEST, then SECURITY MODE COMMAND under the context that it makes. The command of a
-- registration asks for the whole of the request (bit 2).
abbrev pub asked_for : Purpose → Option Asi
asked_for (Registration request) = Some (record { 0 = 2 })
asked_for Command = None

abbrev pub authentication_request : AuthenticationValues → AuthenticationRequest
authentication_request a = record { ksi = a.ksi; abba = abba; rand = Some a.challenge.rand; autn = Some a.autn }

abbrev pub request_sent : AuthenticationValues → ℕ → Record → Work → Work
request_sent a link s w =
    say link (by_link (link_of link w) s.supi) (mm.AuthenticationRequest (authentication_request a)) w

abbrev pub security_mode_command : SecurityContext → Challenging → Record → SecurityModeCommand
security_mode_command context c s =
    record { algs = context.algs; ksi = context.ksi; capability = capability_of s; asi = asked_for c.purpose }

abbrev pub phase_sent : Phase → Challenging → Record → Work → Work
phase_sent (Auth a) c s w = per c.link w (λ (link : ℕ). request_sent a link s w)
phase_sent (Mode context) c s w =
    say_on c.link (IntegrityProtectedWithNewContext s.supi) (mm.SecurityModeCommand (security_mode_command context c s)) w

unfoldable pub challenge_sent : Challenging → Record → Work → Work
challenge_sent c s w = phase_sent c.phase c s w

-- the subscriber is that of the link which it was last challenged on
abbrev pub claimed_one : ℕ → List ℕ → Work → Work
claimed_one link supi w = put_link (record (link_of link w) { supi = Some supi }) w

abbrev pub claimed : Option ℕ → List ℕ → Work → Work
claimed on supi w = per on w (λ (link : ℕ). claimed_one link supi w)

-- a challenge is put, and stands as the subscriber's procedure; T3560 runs
abbrev pub challenge_put : Challenging → Record → Work → Work
challenge_put c s w = start T3560 s (challenge_sent c s (put s w))

abbrev pub challenge_open : Challenging → Record → Record
challenge_open c s = record s { procedure = procedures.Challenging c }

abbrev pub begun_with : AuthenticationValues → Purpose → Option ℕ → Record → Work → Work
begun_with a purpose link s w =
    let c : Challenging = record { purpose = purpose; link = link; phase = Auth a; sendings = 1 } in
    challenge_put c (challenge_open c (record s { last_ksi = Some a.ksi })) (claimed link s.supi w)

unfoldable pub challenge_begun : Purpose → Option ℕ → Vector → Record → Work → Work
challenge_begun purpose link v s w = begun_with (authentication (config_of w) v s) purpose link s w

-- Where no sequence number is left, none is open. A registration is then rejected.
abbrev pub challenge_refused : Purpose → Option ℕ → Work → Work
challenge_refused (Registration request) on w = per on w (λ (link : ℕ). reject link cause.PROTOCOL_ERROR_UNSPECIFIED w)
challenge_refused Command on w = w

-- the capability that a registration tells, where it tells one
abbrev pub told : Option (List ℕ) → Record → Record
told capability s = per capability s (λ (octets : List ℕ). record s { capability = Some octets })

abbrev pub by_vector : Result Vector HomeRefusal → Purpose → Option ℕ → Option (List ℕ) → Record → Work → Work
by_vector (Ok v) purpose link capability s w = challenge_begun purpose link v (told capability (idle s)) w
by_vector (Err refusal) purpose link capability s w = challenge_refused purpose link (put (idle s) w)

-- what the home network answers: a sequence number has 48 bits
abbrev pub VectorFits : Result Vector HomeRefusal → Type 0
VectorFits (Ok v) = v.sqn < 2 ^ 48
VectorFits (Err refusal) = Unit {0}

-- A challenge starts where nothing is open. Whatever was open ends.
abbrev pub challenge_next : Purpose → Option ℕ → Option (List ℕ) → Record → Work → Work
challenge_next purpose link capability s w =
    by_vector (challenge_of s.supi w.rand w.home) purpose link capability s
    (put_home (challenged s.supi w.rand w.home) w)

unfoldable pub challenge : Purpose → Option ℕ → Option (List ℕ) → Record → Work → Work
challenge purpose link capability s w = challenge_next purpose link capability s (stopped s w)
