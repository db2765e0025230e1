-- What working on a step comes to.
use Rattle.std.specs.Prelude.{◌≡◌, Bool, true, false, ℕ, List, Result, Ok, Err}
use Rattle.nas_base.specs.Outcomes.{RefusesAs}
use Rattle.nas_qos.specs.Rules.{QosRule}
use Rattle.ue_sm.specs.Transactions.{OpenTransaction}
use Rattle.ue_sm.specs.declared.inputs.SmStepRefusal.{SmStepRefusal}
use Rattle.ue_sm.specs.declared.inputs.SmStepRefusal.TheVariants.{NoSuchSession, SessionThere, WrongState, Qos, NoPti, Memory}
use Rattle.ue_sm.specs.declared.rules.Unruled.{Unruled}
use Rattle.ue_sm.specs.declared.rules.Unruled.TheVariants.{Refused}
use Rattle.ue_sm.specs.declared.rules.Unruled.TheVariants.{Memory as NoMemory}
use Rattle.ue_sm.specs.declared.work.Work.{Work}

-- the row was worked on; or memory was wanting, and what is kept is as it was
abbrev pub Works : {E : Type 0} → Work → Work → Result Unit E → Work → Type 0
Works old new (Ok done) row = new ≡ row
Works old new (Err e) row = new.state ≡ old.state

-- a transaction was made and its request goes out; or memory was wanting
abbrev pub Requests : {E : Type 0} → Work → Work → Result OpenTransaction E → OpenTransaction → (OpenTransaction → Work)
    → Type 0
Requests old new (Ok t) made row = (t ≡ made) × (new ≡ row made)
Requests old new (Err e) made row = new.state ≡ old.state

-- which refusal is want of memory
abbrev pub wants_memory : SmStepRefusal → Bool
wants_memory Memory = true
wants_memory (NoSuchSession psi) = false
wants_memory (SessionThere psi) = false
wants_memory (WrongState word) = false
wants_memory (Qos fault) = false
wants_memory (NoPti last) = false

-- a command was worked on or refused as its row says; or memory was wanting. After a refusal what is kept is as it was.
abbrev pub Commands : Work → Work → Result Unit SmStepRefusal → Result Work SmStepRefusal → Type 0
Commands old new (Ok done) row = row ≡ Ok new
Commands old new (Err refusal) row = RefusesAs wants_memory refusal row × (new.state ≡ old.state)

-- QoS operations were applied, or refused with a cause; or memory was wanting
abbrev pub GivesRules : Result (List QosRule) Unruled → Result (List QosRule) ℕ → Type 0
GivesRules (Ok rules) new = new ≡ Ok rules
GivesRules (Err (Refused cause)) new = new ≡ Err cause
GivesRules (Err NoMemory) new = Unit {0}
