-- Whom an input concerns, and that no other subscriber changes by it.
use Rattle.std.specs.Prelude.{◌≡◌, ◌⊎◌, ℕ, Bool, true, List, drop, Option, Some, None, Result, Ok, Err}
use Rattle.nas_base.specs.declared.count.Dir.TheVariants.{Up}
use Rattle.nas_elements.specs.declared.identity.Identity.{Identity}
use Rattle.nas_elements.specs.declared.identity.Identity.TheVariants as identities
use Rattle.nas_security.specs.Contexts.{SecurityContext}
use Rattle.mm_messages.specs.Messages.{mm_in}
use Rattle.mm_messages.specs.declared.message.Mm.{Mm}
use Rattle.mm_messages.specs.declared.message.Mm.TheVariants as mm
use Rattle.mm_entity.specs.Opening.{opened}
use Rattle.amf_core.specs.Naming.{keeps_guti, keeps_stmsi, suci_digits}
use Rattle.amf_core.specs.State.{AmfState, link_in, subscriber_in}
use Rattle.amf_core.specs.Step.{Stepped}
use Rattle.amf_core.specs.declared.inputs.AmfInput.{AmfInput}
use Rattle.amf_core.specs.declared.inputs.AmfInput.TheVariants.{Uplink, Expired, Authenticate, Deregister, Update, Fence, Sessions, Down, Dropped}
use Rattle.amf_core.specs.declared.inputs.AmfRefusal.{AmfRefusal}
use Rattle.amf_core.specs.declared.subscriber.Record.{Record}
use Rattle.amf_laws.specs.Passing.{IsAmong, IsContextOf}

-- a subscriber of this SUPI keeps what a test holds of
pub record IsKeeper (is : Record → Bool) (a : AmfState) (supi : List ℕ) : Type 0 where
  pub subscriber : Record
  pub is_kept : IsAmong subscriber a.subscribers
  pub is_its : subscriber.supi ≡ supi
  pub keeps : is subscriber ≡ true

-- An identity names a subscriber: a SUCI by the digits of its SUPI, a 5G-GUTI and a 5G-S-TMSI as one that is kept for it.
abbrev pub Names : AmfState → Identity → List ℕ → Type 0
Names a (identities.Suci x) supi = suci_digits x ≡ supi
Names a (identities.Guti g) supi = IsKeeper (keeps_guti g) a supi
Names a (identities.Stmsi t) supi = IsKeeper (keeps_stmsi t) a supi
Names a (identities.Other octets) supi = ⊥

-- the identity that a message tells
abbrev pub identity_in : Mm → Option Identity
identity_in (mm.RegistrationRequest m) = Some m.identity
identity_in (mm.ServiceRequest m) = Some m.identity
identity_in (mm.DeregistrationRequestUeOriginating m) = Some m.identity
identity_in (mm.IdentityResponse m) = Some m.identity
identity_in message = None

-- octets open to a message under a context of a subscriber that is kept
pub record OpenTo (a : AmfState) (number : ℕ) (octets message : List ℕ) : Type 0 where
  pub subscriber : Record
  pub context : SecurityContext
  pub count : ℕ
  pub is_kept : IsAmong subscriber a.subscribers
  pub is_context : IsContextOf number context subscriber
  pub opens : opened context Up octets ≡ Some (record { count = count; message = message })

-- A message can be read in octets: they are it, they are a frame that isn't ciphered and holds it, or they pass a check and open to it.
abbrev pub IsReadIn : AmfState → ℕ → List ℕ → Mm → Type 0
IsReadIn a number octets m =
    (mm_in octets ≡ Ok m) ⊎ ((mm_in (drop 7 octets) ≡ Ok m) ⊎ ((message : List ℕ) × OpenTo a number octets message × (mm_in message ≡ Ok m)))

-- octets on a link name a subscriber
pub record Name (a : AmfState) (number : ℕ) (octets supi : List ℕ) : Type 0 where
  pub message : Mm
  pub identity : Identity
  pub is_read : IsReadIn a number octets message
  pub is_told : identity_in message ≡ Some identity
  pub names : Names a identity supi

-- a link last passed or challenged a subscriber
abbrev pub IsLinked : AmfState → ℕ → List ℕ → Type 0
IsLinked a number supi = (link_in number a.links).supi ≡ Some supi

-- an input concerns a subscriber
abbrev pub Concerns : AmfState → AmfInput → List ℕ → Type 0
Concerns a (Uplink number fresh octets) supi = IsLinked a number supi ⊎ Name a number octets supi
Concerns a (Dropped number) supi = IsLinked a number supi
Concerns a (Expired other id) supi = supi ≡ other
Concerns a (Authenticate other) supi = supi ≡ other
Concerns a (Deregister other) supi = supi ≡ other
Concerns a (Update other) supi = supi ≡ other
Concerns a (Fence other) supi = supi ≡ other
Concerns a (Sessions other status) supi = supi ≡ other
Concerns a (Down other psi frame) supi = supi ≡ other

-- The records of the subscribers that an input doesn't concern stay as they are.
abbrev pub OthersStay : AmfState → AmfInput → Result Stepped AmfRefusal → Type 0
OthersStay a input (Ok new) =
    (supi : List ℕ) → ¬ (Concerns a input supi) → subscriber_in supi new.amf.subscribers ≡ subscriber_in supi a.subscribers
OthersStay a input (Err refusal) = Unit {0}
