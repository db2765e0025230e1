-- What the definitions of this crate say together.
use Rattle.std.specs.Prelude.{◌≡◌, ◌≤◌, ◌⊎◌, ◌+◌, ℕ, true, List, [], ◌∷◌, Some, None, Ok}
use Rattle.nas_base.specs.Values.{is_psi, psi_from}
use Rattle.sm_messages.specs.Messages.{sm_in, spelling}
use Rattle.sm_messages.specs.declared.message.Sm.{Sm}
use Rattle.sm_messages.specs.declared.message.Sm.TheVariants as sm
use Rattle.sm_messages.specs.declared.modification.PduSessionModificationCommand.{PduSessionModificationCommand}
use Rattle.ue_sm.specs.Cells.{transaction_of}
use Rattle.ue_sm.specs.Delivery.{octet_at}
use Rattle.ue_sm.specs.NetworkCommands.{last_answered, message_of}
use Rattle.ue_sm.specs.State.{SmState, cell_of}
use Rattle.ue_sm.specs.Step.{Stepped, step_of}
use Rattle.ue_sm.specs.Transactions.{OpenTransaction}
use Rattle.ue_sm.specs.declared.cells.Answered.{Answered}
use Rattle.ue_sm.specs.declared.cells.Cell.{Cell}
use Rattle.ue_sm.specs.declared.cells.Cell.TheVariants.{InactivePending}
use Rattle.ue_sm.specs.declared.cells.Held.{Held}
use Rattle.ue_sm.specs.declared.inputs.SmInput.{SmInput}
use Rattle.ue_sm.specs.declared.inputs.SmInput.TheVariants.{Frame, NewContext}
use Rattle.ue_sm.specs.declared.outs.SmOut.TheVariants.{Carry}

-- octets name a session, and are this message under this identity of a transaction
pub record AreMessage (octets : List ℕ) (psi pti : ℕ) (message : Sm) : Type 0 where
  pub session : psi_from (octet_at octets 1) ≡ Some psi
  pub reads : sm_in octets ≡ Ok (record { psi = psi; pti = pti; body = message })

-- In Active and Modification Pending a MODIFICATION COMMAND that is equal to the last that the session answered gets
-- the same answer, and nothing changes (TS 24.501 clause 6.3.2.3).
abbrev pub AnswersAgain : SmState → ℕ → List ℕ → Type 0
AnswersAgain s now octets =
    (psi : ℕ) (last : Answered) → last_answered (cell_of psi s) ≡ Some last
    → AreMessage octets psi last.pti (sm.PduSessionModificationCommand last.command)
    → step_of s now (Frame octets)
    ≡ Ok (record {
      state = s;
      outs = Carry psi None (spelling (record { psi = psi; pti = last.pti; body = message_of last.answer })) ∷ [];
    })

-- While a session is to be released, a MODIFICATION COMMAND does nothing (clause 6.3.2.6).
abbrev pub IgnoresWhileReleasing : SmState → ℕ → List ℕ → Type 0
IgnoresWhileReleasing s now octets =
    (psi pti : ℕ) (command : PduSessionModificationCommand) (held : Held) (t : OpenTransaction)
    → cell_of psi s ≡ InactivePending held t
    → AreMessage octets psi pti (sm.PduSessionModificationCommand command)
    → step_of s now (Frame octets) ≡ Ok (record { state = s; outs = [] })

-- a transaction is one that was open on this session before
abbrev pub WasOpen : Cell → OpenTransaction → Type 0
WasOpen before t = (earlier : OpenTransaction) × (transaction_of before ≡ Some earlier) × (t.request ≡ earlier.request)

-- a transaction is a new one, of the next identity, which is used then
abbrev pub IsNew : SmState → SmState → OpenTransaction → Type 0
IsNew s new t = (t.request.pti ≡ s.next) × (new.next ≡ s.next + 1)

-- Under one context no identity is used by two transactions: the next one only rises, each identity that was
-- used is below it, and a transaction that is open was so before or has the one that was next, which one of
-- all sessions has at most (clause 6.2.1).
pub record HaveNewIdentities (s new : SmState) : Type 0 where
  pub rises : s.next ≤ new.next
  pub transactions : (psi : ℕ) (t : OpenTransaction) → transaction_of (cell_of psi new) ≡ Some t → WasOpen (cell_of psi s) t ⊎ IsNew s new t
  pub alone :
      (psi other : ℕ) (t u : OpenTransaction) → is_psi psi ≡ true → is_psi other ≡ true → ¬ (other ≡ psi)
      → transaction_of (cell_of psi new) ≡ Some t → transaction_of (cell_of other new) ≡ Some u
      → WasOpen (cell_of psi s) t ⊎ WasOpen (cell_of other s) u

abbrev pub UsesNewIdentities : SmState → ℕ → SmInput → Type 0
UsesNewIdentities s now input =
    (new : Stepped) → step_of s now input ≡ Ok new → ¬ (input ≡ NewContext) → HaveNewIdentities s new.state

-- A message of a session changes no other session, and uses no identity.
pub record OnlyChanges (psi : ℕ) (s new : SmState) : Type 0 where
  pub others : (other : ℕ) → is_psi other ≡ true → ¬ (other ≡ psi) → cell_of other new ≡ cell_of other s
  pub identities : new.next ≡ s.next

abbrev pub ChangesOneSession : SmState → ℕ → List ℕ → Type 0
ChangesOneSession s now octets =
    (psi : ℕ) (new : Stepped) → psi_from (octet_at octets 1) ≡ Some psi → step_of s now (Frame octets) ≡ Ok new
    → OnlyChanges psi s new.state
