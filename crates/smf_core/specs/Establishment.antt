-- The establishment of PDU sessions (TS 24.501 clause 6.4.1).
use Rattle.std.specs.Prelude.{ℕ, ◌==◌, ◌||◌, ◌&&◌, not, Bool, true, false, nat_le, is_none, List, [], ◌∷◌, Option, Some, None, Result, Ok, Err}
use Rattle.std.specs.List.{list_any}
use Rattle.std.specs.Str.{bytes_eq}
use Rattle.nas_base.specs.Branches.{per, when◌then◌else◌}
use Rattle.nas_base.specs.declared.sm_cause.TheConstants as cause
use Rattle.nas_elements.specs.Dnns.{is_same_dnn}
use Rattle.nas_elements.specs.declared.address.Address.{Address}
use Rattle.nas_elements.specs.declared.address.Address.TheVariants.{V4, V6, V4V6}
use Rattle.nas_elements.specs.declared.ambr.Ambr.{Ambr}
use Rattle.nas_elements.specs.declared.slice.Slice.{Slice}
use Rattle.nas_pools.specs.Kinds.{kinds_of}
use Rattle.nas_pools.specs.Pools.{PoolsParts, has_v6, take_of}
use Rattle.nas_qos.specs.Rules.{QosRule}
use Rattle.nas_qos.specs.declared.part.Part.TheVariants.{All}
use Rattle.nas_security.specs.Contexts.{is_challenge}
use Rattle.sm_messages.specs.Session.{SessionValues}
use Rattle.sm_messages.specs.declared.message.Sm.{Sm}
use Rattle.sm_messages.specs.declared.message.Sm.TheVariants as sm
use Rattle.smf_core.specs.Kept.{is_accept}
use Rattle.smf_core.specs.Release.{is_no_transaction, removed}
use Rattle.smf_core.specs.State.{dnns_of, slices_of}
use Rattle.smf_core.specs.Work.{Working, cell, frame, held, put, say, say_frame, with_pools}
use Rattle.smf_core.specs.declared.cell.Answer.{Answer}
use Rattle.smf_core.specs.declared.establishment.Asked.{Asked}
use Rattle.smf_core.specs.declared.establishment.Asking.{Asking}
use Rattle.smf_core.specs.declared.held.Held.{Held}
use Rattle.smf_core.specs.declared.held.Phase.TheVariants.{Active}

-- The QoS rules of a new session: one, the default rule, which is for all packets of both directions; and as
-- ESTABLISHMENT ACCEPT tells it: an operation that creates it (clause 9.11.4.13).
abbrev pub default_rules : List QosRule
default_rules =
    record {
      id = 1;
      default = true;
      filters = record { id = 1; direction = 3; parts = All ∷ [] } ∷ [];
      precedence = 255;
      qfi = 1;
    } ∷ []

abbrev pub default_rules_octets : List ℕ
default_rules_octets = 0x01 ∷ 0x00 ∷ 0x06 ∷ 0x31 ∷ 0x31 ∷ 0x01 ∷ 0x01 ∷ 0xff ∷ 0x01 ∷ []

-- SSC mode 1 (clause 9.11.4.16)
abbrev pub ssc_mode_1 : ℕ
ssc_mode_1 = 1

-- The PDU session types 1 IPv4, 2 IPv6 and 3 IPv4v6 (clause 9.11.4.11); a request without one is for IPv4, or for IPv6
-- where the data network has this alone.
abbrev pub is_known_kind : Option ℕ → Bool
is_known_kind kind = per kind true (λ (k : ℕ). nat_le 1 k && nat_le k 3)

abbrev pub wanted : Option ℕ → ℕ → ℕ
wanted kind kinds = per kind (when kinds == 2 then 2 else 1) (λ (k : ℕ). k)

-- A data network has IPv4 alone (1), IPv6 alone (2), or both (3). A request for both gets what there is, with the cause
-- that says so; one for what there isn't is refused with that cause (clauses 6.4.1.3 and 6.4.1.4.1).
abbrev pub only_allowed : ℕ → ℕ
only_allowed kinds =
    when kinds == 1 then cause.PDU_SESSION_TYPE_IPV4_ONLY_ALLOWED else cause.PDU_SESSION_TYPE_IPV6_ONLY_ALLOWED

abbrev pub selected : ℕ → ℕ → Result ℕ ℕ
selected kind kinds =
    when kind == 3 then Ok kinds
    else (when kinds == 3 || kinds == kind then Ok kind else Err (only_allowed kinds))

abbrev pub narrowed : ℕ → ℕ → Option ℕ
narrowed kind kinds = when kind == 3 && not (kinds == 3) then Some (only_allowed kinds) else None

abbrev pub kind_of_address : Address → ℕ
kind_of_address (V4 v4) = 1
kind_of_address (V6 v6) = 2
kind_of_address (V4V6 v6 v4) = 3

-- what is subscribed: a data network by its octets, a slice with its SD
abbrev pub is_same_sd : Option (List ℕ) → Option (List ℕ) → Bool
is_same_sd None None = true
is_same_sd None (Some b) = false
is_same_sd (Some a) None = false
is_same_sd (Some a) (Some b) = bytes_eq a b

abbrev pub is_same_slice : Slice → Slice → Bool
is_same_slice a b = a.sst == b.sst && is_same_sd a.sd b.sd

abbrev pub has_slice : Slice → List Slice → Bool
has_slice slice slices = list_any (is_same_slice slice) slices

-- what a request names, or else what is subscribed first
abbrev pub first_of : {A : Type 0} → List A → Option A
first_of [] = None
first_of (x ∷ xs) = Some x

abbrev pub or_first : {A : Type 0} → Option A → List A → Option A
or_first None xs = first_of xs
or_first (Some x) xs = Some x

-- An answer is said, and it is kept with the challenge of the context that its request came under.
abbrev pub answer_of : Asking → Sm → Answer
answer_of a body = record { challenge = a.challenge; message = frame a.psi a.pti body }

unfoldable pub answered : Asking → Option Held → Sm → Working → Working
answered a session body w =
    say a.psi a.pti body (put a.psi (record { held = session; answer = Some (answer_of a body) }) w)

-- PDU SESSION ESTABLISHMENT REJECT (clause 6.4.1.4)
abbrev pub refused : Asking → ℕ → Working → Working
refused a n w = answered a None (sm.PduSessionEstablishmentReject (record { cause = n })) w

-- PDU SESSION ESTABLISHMENT ACCEPT (clause 6.4.1.3), and the session that it tells of
abbrev pub new_session : Asked → Address → Ambr → SessionValues
new_session asked address ambr = record {
  kind = kind_of_address address;
  address = Some address;
  dnn = Some asked.dnn;
  slice = Some asked.slice;
  ambr = ambr;
  rules = default_rules;
}

abbrev pub accept : Asked → Address → Ambr → Sm
accept asked address ambr = sm.PduSessionEstablishmentAccept (record {
  session_type = kind_of_address address;
  ssc_mode = ssc_mode_1;
  rules = default_rules_octets;
  ambr = ambr;
  cause = narrowed asked.kind asked.kinds;
  address = Some address;
  slice = Some asked.slice;
  flows = Some (record {});
  dnn = Some asked.dnn;
})

unfoldable pub accepted : Asking → Asked → Address → Working → Working
accepted a asked address w =
    answered a (Some (record { session = new_session asked address w.smf.config.ambr; phase = Active None }))
    (accept asked address w.smf.config.ambr) w

-- the least free address of the kind
abbrev pub accepted_with : Asking → Asked → (Address × PoolsParts) → Working → Working
accepted_with a asked taking w = accepted a asked taking.0 (with_pools taking.1 w)

abbrev pub addressed : Asking → Asked → ℕ → Working → Working
addressed a asked kind w =
    per (take_of kind w.smf.pools) (refused a cause.INSUFFICIENT_RESOURCES w)
    (λ (taking : Address × PoolsParts). accepted_with a asked taking w)

abbrev pub by_kind : Asking → Asked → Result ℕ ℕ → Working → Working
by_kind a asked (Ok kind) w = addressed a asked kind w
by_kind a asked (Err n) w = refused a n w

-- What a request asks for. The first of these cases decides: the type isn't one of the three; the data network or the
-- slice isn't subscribed; the data network doesn't have the type; no address is free.
abbrev pub asked_of : Option ℕ → ℕ → List ℕ → Slice → Asked
asked_of kind kinds dnn slice = record { kind = wanted kind kinds; kinds = kinds; dnn = dnn; slice = slice }

unfoldable pub subscribed : Asking → Asked → Working → Working
subscribed a asked w = by_kind a asked (selected asked.kind asked.kinds) w

abbrev pub named : Option ℕ → List ℕ → Slice → Working → Result Asked ℕ
named kind dnn slice w =
    when list_any (is_same_dnn dnn) (dnns_of w.supi w.smf) && has_slice slice (slices_of w.supi w.smf)
    then Ok (asked_of kind (kinds_of dnn (has_v6 w.smf.pools) w.smf.config.kinds) dnn slice)
    else Err cause.MISSING_OR_UNKNOWN_DNN

abbrev pub named_by : Option ℕ → Option (List ℕ) → Option Slice → Working → Result Asked ℕ
named_by kind dnn slice w =
    per dnn (Err cause.MISSING_OR_UNKNOWN_DNN) (λ (name : List ℕ).
    per slice (Err cause.MISSING_OR_UNKNOWN_DNN) (λ (s : Slice). named kind name s w))

unfoldable pub asked_for : Option ℕ → Option (List ℕ) → Option Slice → Working → Result Asked ℕ
asked_for kind dnn slice w =
    when is_known_kind kind
    then named_by kind (or_first dnn (dnns_of w.supi w.smf)) (or_first slice (slices_of w.supi w.smf)) w
    else Err cause.UNKNOWN_PDU_SESSION_TYPE

abbrev pub decided_by : Asking → Result Asked ℕ → Working → Working
decided_by a (Ok asked) w = subscribed a asked w
decided_by a (Err n) w = refused a n w

abbrev pub decided : Asking → Option ℕ → Option (List ℕ) → Option Slice → Working → Working
decided a kind dnn slice w = decided_by a (asked_for kind dnn slice w) w

-- A new request takes the place of a session with its identity.
unfoldable pub newly_requested : Asking → Option ℕ → Option (List ℕ) → Option Slice → Working → Working
newly_requested a kind dnn slice w = decided a kind dnn slice (removed a.psi w)

-- A request that is repeated gets the same answer, unless this was an acceptance whose session is gone.
abbrev pub repeated : Asking → Answer → Working → Working
repeated a kept w =
    when is_none (held a.psi w) && is_accept kept.message.body then w else say_frame a.psi kept.message w

-- PDU SESSION ESTABLISHMENT REQUEST. Under the context of the answer that is kept, the transaction tells an older
-- request and a repeated one from a new one, since a handset numbers its transactions upwards in each context.
abbrev pub compared : Asking → Answer → (Working → Working) → Working → Working
compared a kept new w =
    when is_challenge kept.challenge a.challenge && nat_le a.pti kept.message.pti
    then (when a.pti == kept.message.pti then repeated a kept w else w)
    else new w

unfoldable pub establishment_requested : Asking → Option ℕ → Option (List ℕ) → Option Slice → Working → Working
establishment_requested a kind dnn slice w =
    when is_no_transaction a.pti then w
    else per (cell a.psi w).answer (newly_requested a kind dnn slice w)
    (λ (kept : Answer). compared a kept (newly_requested a kind dnn slice) w)
