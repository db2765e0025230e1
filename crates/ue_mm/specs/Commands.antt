-- The commands that a handset is given.
use Rattle.std.specs.Prelude.{◌^◌, Bool, true, false, not, ◌==◌, Option, Result, Ok, Err}
use Rattle.nas_base.specs.Branches.{per, when◌then◌else◌}
use Rattle.nas_base.specs.declared.kind.Kind.TheVariants as kinds
use Rattle.nas_base.specs.declared.state_words.MmWord.{MmWord}
use Rattle.nas_base.specs.declared.state_words.MmWord.TheVariants as words
use Rattle.nas_security.specs.Contexts.{SecurityContext}
use Rattle.ue_mm.specs.Deregistration.{deregister}
use Rattle.ue_mm.specs.Registration.{register}
use Rattle.ue_mm.specs.Service.{serve}
use Rattle.ue_mm.specs.State.{word_of}
use Rattle.ue_mm.specs.declared.inputs.MmCommand.{MmCommand}
use Rattle.ue_mm.specs.declared.inputs.MmCommand.TheVariants.{Register, Service, Deregister}
use Rattle.ue_mm.specs.declared.inputs.StepRefusal.{StepRefusal}
use Rattle.ue_mm.specs.declared.inputs.StepRefusal.TheVariants.{WrongState, Spent}
use Rattle.ue_mm.specs.declared.work.Work.{Work}

-- An initial registration begins in Deregistered, every other command in Registered.
abbrev pub is_deregistered : MmWord → Bool
is_deregistered words.Deregistered = true
is_deregistered words.RegisteringNew = false
is_deregistered words.RegisteringAgain = false
is_deregistered words.Registered = false
is_deregistered words.Serving = false
is_deregistered words.Deregistering = false

abbrev pub is_only_registered : MmWord → Bool
is_only_registered words.Deregistered = false
is_only_registered words.RegisteringNew = false
is_only_registered words.RegisteringAgain = false
is_only_registered words.Registered = true
is_only_registered words.Serving = false
is_only_registered words.Deregistering = false

abbrev pub may_begin : MmCommand → MmWord → Bool
may_begin (Register kinds.Initial) word = is_deregistered word
may_begin (Register kinds.Mobility) word = is_only_registered word
may_begin (Register kinds.Periodic) word = is_only_registered word
may_begin Service word = is_only_registered word
may_begin (Deregister switch_off) word = is_only_registered word

-- the current context, if there is one, has no count up left
abbrev pub is_spent : Option SecurityContext → Bool
is_spent current = per current false (λ (context : SecurityContext). context.up == 2 ^ 24)

abbrev pub begun : MmCommand → Work → Work
begun (Register kind) w = register kind w
begun Service w = serve w
begun (Deregister switch_off) w = deregister switch_off w

-- a command is refused in the wrong state, or where its message has no count
unfoldable pub commanded : MmCommand → Work → Result Work StepRefusal
commanded command w =
    when not (may_begin command (word_of w.phase)) then Err (WrongState (word_of w.phase))
    else (when is_spent w.common.current then Err (Spent (2 ^ 24)) else Ok (begun command w))
