-- What the calls answer. Want of memory may come in any place.
use Rattle.std.specs.Prelude.{◌≡◌, ℕ, Bool, true, List, Option, Some, None, Result, Ok, Err}
use Rattle.nas_qos.specs.Applying.{applied, within_limits}
use Rattle.nas_qos.specs.Operations.{Operation}
use Rattle.nas_qos.specs.Rules.{QosRule}
use Rattle.nas_qos.specs.declared.refusals.ApplyRefusal.{ApplyRefusal}
use Rattle.nas_qos.specs.declared.refusals.ApplyRefusal.TheVariants.{Qos}
use Rattle.nas_qos.specs.declared.refusals.ApplyRefusal.TheVariants.{Memory as NoMemory}
use Rattle.nas_qos.specs.declared.refusals.OpsRefusal.{OpsRefusal}
use Rattle.nas_qos.specs.declared.refusals.OpsRefusal.TheVariants.{Syntax, Memory}
use Rattle.nas_qos.specs.declared.refusals.QosFault.{QosFault}
use Rattle.nas_qos.specs.declared.refusals.Unread.{Unread}
use Rattle.nas_qos.specs.declared.refusals.Unread.TheVariants.{Wrong}
use Rattle.nas_qos.specs.declared.refusals.Unread.TheVariants.{Memory as NoRoom}

-- a part of an operation was read, and is in its type's ranges, or there is none
abbrev pub Finds : {A : Type 0} → (A → Bool) → Result A Unread → Option A → Type 0
Finds whole (Ok value) read = (read ≡ Some value) × (whole value ≡ true)
Finds whole (Err Wrong) read = read ≡ None
Finds whole (Err NoRoom) read = Unit {0}

-- a list of operations was read, or the place of the first that is wrong
abbrev pub ReadsOps : Result (List Operation) OpsRefusal → Result (List Operation) ℕ → Type 0
ReadsOps (Ok ops) read = read ≡ Ok ops
ReadsOps (Err (Syntax at)) read = read ≡ Err at
ReadsOps (Err Memory) read = Unit {0}

-- operations were applied, or the first fault among them
abbrev pub Applies : Result (List QosRule) ApplyRefusal → Result (List QosRule) QosFault → Type 0
Applies (Ok rules) new = new ≡ Ok rules
Applies (Err (Qos fault)) new = new ≡ Err fault
Applies (Err NoMemory) new = Unit {0}

-- one operation changed rules in place, or its fault
abbrev pub Changes : {T : Type 0} → Result T ApplyRefusal → List QosRule → List QosRule → Operation → Type 0
Changes (Ok _) old new op = applied op old ≡ Ok new
Changes (Err (Qos fault)) old new op = applied op old ≡ Err fault
Changes (Err NoMemory) old new op = Unit {0}

-- rules are within their limits, or the fault
abbrev pub KeepsLimits : {T : Type 0} → Result T ApplyRefusal → List QosRule → Type 0
KeepsLimits (Ok _) rules = within_limits rules ≡ Ok rules
KeepsLimits (Err (Qos fault)) rules = within_limits rules ≡ Err fault
KeepsLimits (Err NoMemory) rules = Unit {0}
