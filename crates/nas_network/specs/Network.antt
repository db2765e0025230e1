-- What a network answers to each event.
use Rattle.std.specs.Prelude.{◌≡◌, ℕ, Bool, true, false, List, [], ◌∷◌, take, Result, Ok, Err}
use Rattle.nas_base.specs.Outcomes.{RefusesAs}
use Rattle.amf_core.specs.Step.{Stepped}
use Rattle.amf_core.specs.declared.inputs.AmfInput.{AmfInput}
use Rattle.amf_core.specs.declared.inputs.AmfInput.TheVariants as inputs
use Rattle.amf_core.specs.declared.inputs.AmfRefusal.{AmfRefusal}
use Rattle.amf_core.specs.declared.inputs.AmfRefusal.TheVariants as steps
use Rattle.nas_network.specs.State.{NetworkState}
use Rattle.nas_network.specs.Turns.{Turn, begun, onto, stepped, turned}
use Rattle.nas_network.specs.declared.command.NetCommand.{NetCommand}
use Rattle.nas_network.specs.declared.command.NetCommand.TheVariants.{Authenticate, Deregister, Update}
use Rattle.nas_network.specs.declared.command.NetDelivery.{NetDelivery}
use Rattle.nas_network.specs.declared.command.NetRefusal.{NetRefusal}
use Rattle.nas_network.specs.declared.command.NetRefusal.TheVariants.{UnknownSupi, WrongState, SqnSpent, Uncompleted, Updated, TmsiSpent, Memory}

-- a command to the network, as one to its AMF
abbrev pub amf_command : NetCommand → AmfInput
amf_command (Authenticate supi) = inputs.Authenticate supi
amf_command (Deregister supi) = inputs.Deregister supi
amf_command (Update supi) = inputs.Update supi

-- why a command is refused, as the AMF says it
abbrev pub refusal_of : AmfRefusal → NetRefusal
refusal_of steps.UnknownSupi = UnknownSupi
refusal_of (steps.WrongState word) = WrongState word
refusal_of (steps.SqnSpent sqn) = SqnSpent sqn
refusal_of (steps.Uncompleted tmsi) = Uncompleted tmsi
refusal_of (steps.Updated tmsi) = Updated tmsi
refusal_of (steps.TmsiSpent last) = TmsiSpent last
refusal_of steps.Memory = Memory

-- what a command comes to: the turn of its step, or the refusal
abbrev pub outcome : Result Stepped AmfRefusal → NetworkState → Result Turn NetRefusal
outcome (Ok s) n = Ok (onto (Ok s) (begun n))
outcome (Err refusal) n = Err (refusal_of refusal)

unfoldable pub commanded : List ℕ → NetCommand → NetworkState → Result Turn NetRefusal
commanded rand command n = outcome (stepped rand (amf_command command) (begun n)) n

-- Octets that come up a link. Of more than 4,096 octets nothing is read, whatever they are: they are ignored, and where they are the
-- first of a connection, what was secure on the link is so no longer. The first 4,097 of them tell that they are too many, and an AMF
-- isn't handed more.
abbrev pub most_taken : ℕ
most_taken = 4097

abbrev pub delivered : List ℕ → ℕ → Bool → List ℕ → NetworkState → Turn
delivered rand link fresh octets n = turned rand (inputs.Uplink link fresh (take most_taken octets)) (begun n)

-- The loss of a link. No challenge starts in it, so that any RAND will do.
abbrev pub no_rand : List ℕ
no_rand = 0 ∷ 0 ∷ 0 ∷ 0 ∷ 0 ∷ 0 ∷ 0 ∷ 0 ∷ 0 ∷ 0 ∷ 0 ∷ 0 ∷ 0 ∷ 0 ∷ 0 ∷ 0 ∷ []

abbrev pub dropped : ℕ → NetworkState → Turn
dropped link n = turned no_rand (inputs.Dropped link) (begun n)

-- what came of an event, and the network behind it
abbrev pub answered : NetworkState → NetDelivery → Turn
answered n delivery = record { network = n; sends = delivery.sends; passed = delivery.passed }

-- which refusal is want of memory
abbrev pub wants_memory : NetRefusal → Bool
wants_memory Memory = true
wants_memory UnknownSupi = false
wants_memory (WrongState word) = false
wants_memory (SqnSpent sqn) = false
wants_memory (Uncompleted tmsi) = false
wants_memory (Updated tmsi) = false
wants_memory (TmsiSpent last) = false

-- what a command answered, and the network behind it
abbrev pub Commands : NetworkState → NetworkState → Result NetDelivery NetRefusal → Result Turn NetRefusal → Type 0
Commands old new (Ok delivery) row = row ≡ Ok (answered new delivery)
Commands old new (Err refusal) row = RefusesAs wants_memory refusal row × (new ≡ old)
