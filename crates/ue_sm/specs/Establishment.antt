-- The establishment of a PDU session (TS 24.501 clause 6.4.1).
use Rattle.std.specs.Prelude.{ℕ, List, [], ◌∷◌, Some, None, Result, Ok, Err}
use Rattle.nas_qos.specs.Rules.{QosRule}
use Rattle.nas_timers.specs.declared.timer_id.TimerId.TheVariants.{T3580}
use Rattle.sm_messages.specs.Session.{SessionValues}
use Rattle.sm_messages.specs.declared.establishment.PduSessionEstablishmentAccept.{PduSessionEstablishmentAccept}
use Rattle.sm_messages.specs.declared.message.Sm.{Sm}
use Rattle.sm_messages.specs.declared.message.Sm.TheVariants as sm
use Rattle.ue_sm.specs.Rules.{ruled}
use Rattle.ue_sm.specs.Transactions.{OpenTransaction}
use Rattle.ue_sm.specs.Work.{begun, ended, request, status}
use Rattle.ue_sm.specs.declared.cells.Cell.TheVariants.{Inactive, ActivePending, Active}
use Rattle.ue_sm.specs.declared.work.Work.{Work}

-- PDU SESSION ESTABLISHMENT REQUEST: the full data rate for both directions, the type that is asked for, and SSC mode 1
-- (clauses 8.3.1, 9.11.4.7, 9.11.4.11 and 9.11.4.16)
abbrev pub establishment_request : ℕ → Sm
establishment_request kind = sm.PduSessionEstablishmentRequest (record {
  maximum_rates = 0xff ∷ 0xff ∷ [];
  session_type = Some kind;
  ssc_mode = Some 1;
})

-- the command, for a session that is inactive and an identity that is left
unfoldable pub established_by : ℕ → ℕ → List ℕ → Work → Work
established_by psi kind dnn w =
    let t : OpenTransaction = request psi (Some dnn) (establishment_request kind) w in
    begun psi (T3580 psi) (ActivePending t) t w

-- the session that an ACCEPT tells, with the rules that come of its operations; what it doesn't tell isn't known
abbrev pub accepted_session : PduSessionEstablishmentAccept → List QosRule → SessionValues
accepted_session m rules = record {
  kind = m.session_type;
  address = m.address;
  dnn = m.dnn;
  slice = m.slice;
  ambr = m.ambr;
  rules = rules;
}

-- PDU SESSION ESTABLISHMENT ACCEPT. One whose operations don't apply where there are no rules yet is answered with 5GSM
-- STATUS, and there is no session.
abbrev pub accepted_with : Result (List QosRule) ℕ → ℕ → ℕ → PduSessionEstablishmentAccept → Work → Work
accepted_with (Ok rules) psi pti m w =
    ended psi (Active (record { session = accepted_session m rules; answered = None })) w
accepted_with (Err n) psi pti m w = status psi pti n (ended psi Inactive w)

unfoldable pub establishment_accepted : ℕ → ℕ → PduSessionEstablishmentAccept → Work → Work
establishment_accepted psi pti m w = accepted_with (ruled m.rules []) psi pti m w

-- PDU SESSION ESTABLISHMENT REJECT
unfoldable pub establishment_rejected : ℕ → Work → Work
establishment_rejected psi w = ended psi Inactive w
