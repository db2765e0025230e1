-- What an AMF takes as passed, and what octets do that pass no check (TS 24.501 clause 4.4.4.3).
use Rattle.std.specs.Prelude.{◌≡◌, ◌≤◌, ◌⊎◌, ℕ, Bool, true, false, List, [], ◌∷◌, drop, length, Some, None, Result, Ok, Err}
use Rattle.nas_base.specs.declared.count.Dir.TheVariants.{Up}
use Rattle.nas_base.specs.declared.mm_cause.TheConstants as cause
use Rattle.milenage.specs.Home.{HomeRecord}
use Rattle.nas_security.specs.Contexts.{SecurityContext}
use Rattle.nas_security.specs.Passing.{Passes}
use Rattle.nas_security.specs.declared.sends.Pass.{Pass}
use Rattle.collision_rules.specs.Plain.{permitted_amf}
use Rattle.mm_messages.specs.KindOf.{kind_of}
use Rattle.mm_messages.specs.Messages.{mm_in, spelling}
use Rattle.mm_messages.specs.declared.message.Mm.{Mm}
use Rattle.mm_messages.specs.declared.message.Mm.TheVariants as mm
use Rattle.mm_messages.specs.declared.message.MmRefusal.TheVariants as refusals
use Rattle.mm_messages.specs.declared.service.ServiceRequest.{ServiceRequest}
use Rattle.mm_entity.specs.Heads.{header_of, is_mm, type_of}
use Rattle.amf_core.specs.SecurityMode.{commanding_on}
use Rattle.amf_core.specs.Delivery.{freshened, is_permitted_type, taken_plain}
use Rattle.amf_core.specs.State.{AmfState, link_in, with_link}
use Rattle.amf_core.specs.Step.{Stepped, ended, started, step_of}
use Rattle.amf_core.specs.Work.{Work, status}
use Rattle.amf_core.specs.declared.inputs.AmfInput.TheVariants.{Uplink}
use Rattle.amf_core.specs.declared.inputs.AmfRefusal.{AmfRefusal}
use Rattle.amf_core.specs.declared.outs.AmfOut.{AmfOut}
use Rattle.amf_core.specs.declared.outs.AmfOut.TheVariants.{Send, Passed, Smf, Start, Stop}
use Rattle.amf_core.specs.declared.security_mode.Commanding.{Commanding}
use Rattle.amf_core.specs.declared.subscriber.Record.{Record}

-- one of these records
abbrev pub IsAmong : Record → List Record → Type 0
IsAmong s [] = ⊥
IsAmong s (x ∷ others) = (x ≡ s) ⊎ IsAmong s others

-- A context of a subscriber that octets on a link may be checked under: the one in use, or the one that was commanded on this link.
abbrev pub IsContextOf : ℕ → SecurityContext → Record → Type 0
IsContextOf number context s =
    (s.in_use ≡ Some context) ⊎ ((o : Commanding) × (commanding_on number s.procedure ≡ Some o) × (o.context ≡ context))

-- These octets passed a check of a subscriber that is kept, as it is told: they pass under a context of it that has this challenge, at
-- this count.
pub record WasChecked (a : AmfState) (number : ℕ) (octets : List ℕ) (pass : Pass) : Type 0 where
  pub subscriber : Record
  pub context : SecurityContext
  pub header : ℕ
  pub message : List ℕ
  pub is_kept : IsAmong subscriber a.subscribers
  pub is_its : subscriber.supi ≡ pass.supi
  pub is_context : IsContextOf number context subscriber
  pub is_challenge : context.challenge ≡ pass.challenge
  pub passes : Passes context Up octets pass.count header message

-- what goes out tells of passes, each so
abbrev pub AllPassed : (Pass → Type 0) → List AmfOut → Type 0
AllPassed P [] = Unit {0}
AllPassed P (Passed pass ∷ outs) = P pass × AllPassed P outs
AllPassed P (Send message ∷ outs) = AllPassed P outs
AllPassed P (Smf call ∷ outs) = AllPassed P outs
AllPassed P (Start supi id at ∷ outs) = AllPassed P outs
AllPassed P (Stop supi id ∷ outs) = AllPassed P outs

-- a step in which octets come up a link
abbrev pub Uplinks : AmfState → List HomeRecord → ℕ → List ℕ → ℕ → Bool → List ℕ → Result Stepped AmfRefusal
Uplinks a home now rand number fresh octets = step_of a home now rand (Uplink number fresh octets)

-- What a step takes as passed, passes.
abbrev pub OpensWherePassing : AmfState → ℕ → List ℕ → Result Stepped AmfRefusal → Type 0
OpensWherePassing a number octets (Ok new) = AllPassed (WasChecked a number octets) new.outs
OpensWherePassing a number octets (Err refusal) = Unit {0}

-- whether a pass is told
abbrev pub has_passed : List AmfOut → Bool
has_passed [] = false
has_passed (Passed pass ∷ outs) = true
has_passed (Send message ∷ outs) = has_passed outs
has_passed (Smf call ∷ outs) = has_passed outs
has_passed (Start supi id at ∷ outs) = has_passed outs
has_passed (Stop supi id ∷ outs) = has_passed outs

-- The link of a step is secure afterwards only where octets passed a check in it.
abbrev pub SecuresWherePassing : ℕ → Result Stepped AmfRefusal → Type 0
SecuresWherePassing number (Ok new) = (link_in number new.amf.links).secure ≡ true → has_passed new.outs ≡ true
SecuresWherePassing number (Err refusal) = Unit {0}

-- A step tells no message as passed: its octets passed no check, since what passes is told.
abbrev pub TellsNoPass : Result Stepped AmfRefusal → Type 0
TellsNoPass (Ok new) = has_passed new.outs ≡ false
TellsNoPass (Err refusal) = Unit {0}

-- The link isn't secure when octets are looked at: they are the first of a connection, or nothing was exchanged securely on it.
abbrev pub IsUnsecured : AmfState → ℕ → Bool → Type 0
IsUnsecured a number fresh = (fresh ≡ true) ⊎ ((link_in number a.links).secure ≡ false)

-- a request that is answered where it passes no check (clause 4.4.4.3)
abbrev pub IsAnsweredUnchecked : Mm → Type 0
IsAnsweredUnchecked (mm.RegistrationRequest m) = Unit {0}
IsAnsweredUnchecked (mm.ServiceRequest m) = Unit {0}
IsAnsweredUnchecked message = ⊥

-- octets that may do something without a check: on a link that isn't secure plain ones, and a frame of header type 1 with such a request
-- inside
pub record MayDoUnchecked (a : AmfState) (number : ℕ) (fresh : Bool) (octets : List ℕ) : Type 0 where
  pub unsecured : IsUnsecured a number fresh
  pub kind :
      (header_of octets ≡ 0)
      ⊎ ((header_of octets ≡ 1) × ((m : Mm) × IsAnsweredUnchecked m × (mm_in (drop 7 octets) ≡ Ok m)))

-- the first message of a connection finds its link not secure; nothing else changes by it
abbrev pub unmarked : Bool → ℕ → AmfState → AmfState
unmarked true number a = with_link (record (link_in number a.links) { secure = false }) a
unmarked false number a = a

-- All other octets that pass no check change nothing else, and are answered by nothing.
abbrev pub UncheckedDoNothing : AmfState → List HomeRecord → ℕ → List ℕ → ℕ → Bool → List ℕ → Type 0
UncheckedDoNothing a home now rand number fresh octets =
    TellsNoPass (Uplinks a home now rand number fresh octets) → ¬ (MayDoUnchecked a number fresh octets)
    → Uplinks a home now rand number fresh octets ≡ Ok (record { amf = unmarked fresh number a; home = home; outs = [] })

-- octets are read as plain ones: on a link that isn't secure, of header type 0
pub record AreReadPlain (a : AmfState) (number : ℕ) (fresh : Bool) (octets : List ℕ) : Type 0 where
  pub protocol : is_mm octets ≡ true
  pub size : length octets ≤ 4096
  pub unsecured : IsUnsecured a number fresh
  pub header : header_of octets ≡ 0

-- what octets find that came up a link, and a step that works out so
abbrev pub found_by : AmfState → List HomeRecord → ℕ → List ℕ → ℕ → Bool → Work
found_by a home now rand number fresh = freshened fresh number (started a home now rand)

abbrev pub Does : Result Stepped AmfRefusal → Work → Type 0
Does step w = step ≡ Ok (ended w)

-- What octets do that are read as plain ones (clauses 4.4.4.3, 7.4 and 7.5.1). A message of a kind that is permitted does what its row
-- for plain messages says, and any other message nothing. A type that isn't known is answered by STATUS 97, and a wrong part of a kind
-- that is permitted by STATUS 96.
pub record PlainDo (octets : List ℕ) (number : ℕ) (w : Work) (step : Result Stepped AmfRefusal) : Type 0 where
  pub permitted : (m : Mm) → mm_in octets ≡ Ok m → permitted_amf (kind_of m) ≡ true → Does step (taken_plain number m w)
  pub not_permitted : (m : Mm) → mm_in octets ≡ Ok m → permitted_amf (kind_of m) ≡ false → Does step w
  pub unknown_type :
      (n : ℕ) → mm_in octets ≡ Err (refusals.UnknownType n)
      → Does step (status number cause.MESSAGE_TYPE_NON_EXISTENT_OR_NOT_IMPLEMENTED w)
  pub wrong_part :
      (n at : ℕ) → mm_in octets ≡ Err (refusals.Mandatory n at) → is_permitted_type (type_of octets) ≡ true
      → Does step (status number cause.INVALID_MANDATORY_INFORMATION w)
  pub other_wrong_part :
      (n at : ℕ) → mm_in octets ≡ Err (refusals.Mandatory n at) → is_permitted_type (type_of octets) ≡ false → Does step w
  pub ignored : (at : ℕ) → mm_in octets ≡ Err (refusals.Ignored at) → Does step w

abbrev pub PlainDoByKind : AmfState → List HomeRecord → ℕ → List ℕ → ℕ → Bool → List ℕ → Type 0
PlainDoByKind a home now rand number fresh octets =
    AreReadPlain a number fresh octets
    → PlainDo octets number (found_by a home now rand number fresh) (Uplinks a home now rand number fresh octets)

-- octets read as this message: plain, or in a frame that isn't ciphered
abbrev pub AreRead : List ℕ → Mm → Type 0
AreRead octets m = ((header_of octets ≡ 0) × (mm_in octets ≡ Ok m)) ⊎ ((header_of octets ≡ 1) × (mm_in (drop 7 octets) ≡ Ok m))

-- a SERVICE REQUEST comes as the first message of a connection, or on a link that isn't secure
pub record IsBareRequest (a : AmfState) (number : ℕ) (fresh : Bool) (octets : List ℕ) : Type 0 where
  pub protocol : is_mm octets ≡ true
  pub size : length octets ≤ 4096
  pub unsecured : IsUnsecured a number fresh
  pub read : (m : ServiceRequest) × AreRead octets (mm.ServiceRequest m)

-- It is answered by SERVICE REJECT, since the UE identity can't be derived, and nothing is sent beside it. No record of a subscriber changes, so no context, no kept 5G-GUTI and
-- no session, and neither do the numbers of the home network.
abbrev pub service_rejected : Mm
service_rejected = mm.ServiceReject (record { cause = cause.UE_IDENTITY_CANNOT_BE_DERIVED_BY_THE_NETWORK; status = None })

pub record IsRejected (a : AmfState) (home : List HomeRecord) (number : ℕ) (new : Stepped) : Type 0 where
  pub answer : new.outs ≡ Send (record { link = number; fresh = false; octets = spelling service_rejected; pass = None }) ∷ []
  pub subscribers : new.amf.subscribers ≡ a.subscribers
  pub numbers : (new.amf.tmsi ≡ a.tmsi) × (new.home ≡ home)

abbrev pub RejectsRequest : AmfState → List HomeRecord → ℕ → Result Stepped AmfRefusal → Type 0
RejectsRequest a home number (Ok new) = IsRejected a home number new
RejectsRequest a home number (Err refusal) = ⊥

abbrev pub FailedRequestsRejected : AmfState → List HomeRecord → ℕ → List ℕ → ℕ → Bool → List ℕ → Type 0
FailedRequestsRejected a home now rand number fresh octets =
    TellsNoPass (Uplinks a home now rand number fresh octets) → IsBareRequest a number fresh octets
    → RejectsRequest a home number (Uplinks a home now rand number fresh octets)
