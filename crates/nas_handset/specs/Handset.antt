-- What a handset answers to each event.
use Rattle.std.specs.Prelude.{◌≡◌, ℕ, Bool, true, false, List, Result, Ok, Err}
use Rattle.nas_base.specs.Outcomes.{RefusesAs}
use Rattle.nas_security.specs.declared.sends.Send.{Send}
use Rattle.ue_mm.specs.Outcome as ue
use Rattle.ue_mm.specs.Step.{Stepped}
use Rattle.ue_mm.specs.declared.inputs.MmCommand.{MmCommand}
use Rattle.ue_mm.specs.declared.inputs.MmCommand.TheVariants as mm
use Rattle.ue_mm.specs.declared.inputs.StepRefusal.{StepRefusal}
use Rattle.ue_mm.specs.declared.inputs.StepRefusal.TheVariants as steps
use Rattle.ue_mm.specs.declared.inputs.UeInput.TheVariants.{Command, Delivered, Dropped, Restart}
use Rattle.nas_handset.specs.State.{HandsetState}
use Rattle.nas_handset.specs.Turns.{Turn, begun, onto, stepped, turned}
use Rattle.nas_handset.specs.declared.command.CommandRefusal.{CommandRefusal}
use Rattle.nas_handset.specs.declared.command.CommandRefusal.TheVariants.{WrongState, Spent, Memory}
use Rattle.nas_handset.specs.declared.command.UeCommand.{UeCommand}
use Rattle.nas_handset.specs.declared.command.UeCommand.TheVariants.{Register, Service, Deregister}
use Rattle.nas_handset.specs.declared.handset.Delivery.{Delivery}

-- a command to the handset, as one to its mobility management
abbrev pub mm_command : UeCommand → MmCommand
mm_command (Register kind) = mm.Register kind
mm_command Service = mm.Service
mm_command (Deregister switch_off) = mm.Deregister switch_off

-- what a command comes to: the turn of its step, or the refusal
abbrev pub outcome : Result Stepped StepRefusal → HandsetState → Result Turn CommandRefusal
outcome (Ok s) h = Ok (onto (Ok s) (begun h))
outcome (Err (steps.WrongState word)) h = Err (WrongState word)
outcome (Err (steps.Spent next)) h = Err (Spent next)
outcome (Err steps.Memory) h = Err Memory

unfoldable pub commanded : UeCommand → HandsetState → Result Turn CommandRefusal
commanded command h = outcome (stepped (Command (mm_command command)) (begun h)) h

-- octets that reach it, the loss of its connection, a restart
abbrev pub delivered : List ℕ → HandsetState → Turn
delivered octets h = turned (Delivered octets) (begun h)

abbrev pub dropped : HandsetState → Turn
dropped h = turned Dropped (begun h)

abbrev pub restarted : HandsetState → Turn
restarted h = turned Restart (begun h)

-- what a turn came to: the handset behind it, and what came of it
abbrev pub ended : HandsetState → Delivery → Turn
ended h d = record { handset = h; sends = d.sends; passed = d.passed; took = d.took }

-- which refusal is want of memory
abbrev pub wants_memory : CommandRefusal → Bool
wants_memory Memory = true
wants_memory (WrongState word) = false
wants_memory (Spent next) = false

-- what a command comes to
abbrev pub FollowsCommand : Result (HandsetState × List Send) CommandRefusal → Result Turn CommandRefusal → Type 0
FollowsCommand (Ok (new, sends)) (Ok t) = (new ≡ t.handset) × (sends ≡ t.sends)
FollowsCommand (Ok followed) (Err refusal) = ⊥
FollowsCommand (Err refusal) row = RefusesAs wants_memory refusal row

-- what a command answered, and the handset behind it
abbrev pub Commands : HandsetState → HandsetState → Result (List Send) CommandRefusal → Result Turn CommandRefusal → Type 0
Commands old new (Ok sends) row = FollowsCommand (Ok (new, sends)) row
Commands old new (Err refusal) row = RefusesAs wants_memory refusal row × (new ≡ old)

-- what the first step of a turn answered
abbrev pub StepsFirst : Result Turn StepRefusal → Result Stepped StepRefusal → HandsetState → Type 0
StepsFirst (Ok t) (Ok s) h = t ≡ onto (Ok s) (begun h)
StepsFirst (Ok t) (Err refusal) h = ⊥
StepsFirst (Err refusal) step h = RefusesAs ue.wants_memory refusal step
