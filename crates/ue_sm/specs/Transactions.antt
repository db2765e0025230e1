-- What a handset has under way on a PDU session: a request that awaits its answer (TS 24.501 clause 6.1.3.2 and, of the
-- identity of the transaction, 6.2.1 and 9.6).
use Rattle.std.specs.Prelude.{◌≡◌, ◌≤◌, ◌+◌, ℕ, List, length, Option, Result, Ok, Err}
use Rattle.sm_messages.specs.Messages.{sm_in, spelling}
use Rattle.sm_messages.specs.declared.message.Sm.TheVariants as sm
use Rattle.sm_messages.specs.declared.message.SmFrame.{SmFrame}
use Rattle.sm_messages.specs.declared.message.SmRefusal.{SmRefusal}

-- the request, with the identity of the transaction in its head; the data network that its transport
-- names, if any; and how often it was sent
pub record OpenTransaction : Type 0 where
  pub request : SmFrame
  pub dnn : Option (List ℕ)
  pub sendings : ℕ

-- a request that is sent for the first time
abbrev pub opened : SmFrame → Option (List ℕ) → OpenTransaction
opened request dnn = record { request = request; dnn = dnn; sendings = 1 }

-- the same, sent once more: the request and its identity stay
abbrev pub sent_again : OpenTransaction → OpenTransaction
sent_again t = record t { sendings = t.sendings + 1 }

-- the request that kept octets are; those of a transaction always are one
abbrev pub frame_read : Result SmFrame SmRefusal → SmFrame
frame_read (Ok frame) = frame
frame_read (Err refusal) = record { psi = 0; pti = 0; body = sm.PduSessionModificationComplete }

unfoldable pub request_in : List ℕ → SmFrame
request_in octets = frame_read (sm_in octets)

-- what is always so of them: they are spelled as their request is, the identity is the one in its head, and a request
-- is sent five times at most
pub record IsKept (octets : List ℕ) (pti sendings : ℕ) : Type 0 where
  pub spelled : octets ≡ spelling (request_in octets)
  pub short : length octets ≤ 4096
  pub identity : pti ≡ (request_in octets).pti
  pub sent : sendings ≤ 5
