-- Primary authentication (TS 24.501 clause 5.4.1.3, TS 33.501 clause 6.1.3.2).
use Rattle.std.specs.Prelude.{ℕ, Bool, false, ◌==◌, ◌&&◌, ◌||◌, List, Option, Some, None}
use Rattle.std.specs.Str.{bytes_eq}
use Rattle.nas_base.specs.Branches.{per, when◌then◌else◌}
use Rattle.nas_base.specs.declared.mm_cause.TheConstants as cause
use Rattle.key_chain.specs.Keys.{challenge_kamf, res_star}
use Rattle.milenage.specs.Checking.{checked}
use Rattle.milenage.specs.declared.autn.AutnAnswer.{AutnAnswer}
use Rattle.milenage.specs.declared.autn.AutnAnswer.TheVariants.{Accepted, MacFailure, NotFiveG, SynchFailure}
use Rattle.nas_security.specs.Contexts.{SecurityContext}
use Rattle.nas_timers.specs.declared.timer_id.TimerId.TheVariants.{T3516}
use Rattle.mm_messages.specs.declared.authentication.AuthenticationRequest.{AuthenticationRequest}
use Rattle.mm_messages.specs.declared.message.Mm.TheVariants as mm
use Rattle.ue_mm.specs.Config.{HandsetValues}
use Rattle.ue_mm.specs.Work.{answer, start, status}
use Rattle.ue_mm.specs.declared.authentication.Request.{Request}
use Rattle.ue_mm.specs.declared.common.Pending.{Pending}
use Rattle.ue_mm.specs.declared.common.Stored.{Stored}
use Rattle.ue_mm.specs.declared.work.Work.{Work}

-- two requests with RAND and AUTN are equal in all their parts
abbrev pub is_same : Request → Request → Bool
is_same one other =
    one.ksi == other.ksi && bytes_eq one.abba other.abba && bytes_eq one.rand other.rand && bytes_eq one.autn other.autn

-- the answer to the challenge that was accepted last, where the request is the same
abbrev pub answer_again : Option Stored → Request → Option (List ℕ)
answer_again stored r = per stored None (λ (s : Stored). when is_same s.request r then Some s.res_star else None)

abbrev pub response : List ℕ → Work → Work
response res_star w = answer (mm.AuthenticationResponse (record { res_star = Some res_star })) w

-- the ngKSI says that no key is to come of it, or is that of the current context
abbrev pub is_ksi_refused : Option SecurityContext → ℕ → Bool
is_ksi_refused current ksi = ksi == 7 || per current false (λ (context : SecurityContext). context.ksi == ksi)

-- KAMF of the challenge
abbrev pub kamf_of : HandsetValues → List ℕ → List ℕ → Request → List ℕ
kamf_of config ck ik r = challenge_kamf ck ik r.autn config.plmn config.supi r.abba

-- The challenge is accepted: its key waits for a command, the request is kept with its answer, and SQN_MS is its sequence number.
abbrev pub accepted : Request → ℕ → List ℕ → List ℕ → List ℕ → Work → Work
accepted r n res ck ik w =
    let expected : List ℕ = res_star ck ik w.common.config.plmn r.rand res in
    let pending : Pending = record { challenge = record { sqn = n; rand = r.rand }; ksi = r.ksi; kamf = kamf_of w.common.config ck ik r } in
    response expected (start T3516
    (record w { common = record w.common { sqn = n; pending = Some pending; stored = Some (record { request = r; res_star = expected }) } }))

abbrev pub failure : ℕ → Option (List ℕ) → Work → Work
failure n auts w = answer (mm.AuthenticationFailure (record { cause = n; auts = auts })) w

-- what MILENAGE answers; a synch failure has AUTS
abbrev pub answered : AutnAnswer → Request → Work → Work
answered (Accepted n res ck ik ak) r w = accepted r n res ck ik w
answered MacFailure r w = failure cause.MAC_FAILURE None w
answered NotFiveG r w = failure cause.NON_5G_AUTHENTICATION_UNACCEPTABLE None w
answered (SynchFailure auts) r w = failure cause.SYNCH_FAILURE (Some auts) w

-- a challenge, in the order of its cases: one that is repeated, one whose ngKSI is in use, and what MILENAGE answers
unfoldable pub challenged : Request → Work → Work
challenged r w =
    per (answer_again w.common.stored r)
    (when is_ksi_refused w.common.current r.ksi then failure cause.NGKSI_ALREADY_IN_USE None w
    else answered (checked w.common.config.k w.common.config.opc r.rand r.autn w.common.sqn) r w)
    (λ (res_star : List ℕ). response res_star w)

-- AUTHENTICATION REQUEST; without RAND or AUTN it is none
unfoldable pub authentication_requested : AuthenticationRequest → Work → Work
authentication_requested m w =
    per m.rand (status cause.PROTOCOL_ERROR_UNSPECIFIED w) (λ (rand : List ℕ).
    per m.autn (status cause.PROTOCOL_ERROR_UNSPECIFIED w) (λ (autn : List ℕ).
    challenged (record { ksi = m.ksi; abba = m.abba; rand = rand; autn = autn }) w))
