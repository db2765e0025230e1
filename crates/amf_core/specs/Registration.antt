-- REGISTRATION REQUEST (TS 24.501 clauses 5.5.1.2 and 5.5.1.3).
use Rattle.std.specs.Prelude.{ℕ, Bool, true, false, ◌==◌, ◌&&◌, ◌||◌, List, Option, Some, None}
use Rattle.std.specs.Str.{bytes_eq}
use Rattle.nas_base.specs.Branches.{per, when◌then◌else◌}
use Rattle.nas_base.specs.declared.mm_cause.TheConstants as cause
use Rattle.nas_elements.specs.Capability.{has_ea, has_ia}
use Rattle.nas_elements.specs.TaiList.{one_area}
use Rattle.nas_elements.specs.declared.guti.Guti.{Guti}
use Rattle.nas_elements.specs.declared.identity.Identity.{Identity}
use Rattle.nas_elements.specs.declared.identity.Identity.TheVariants as identities
use Rattle.nas_elements.specs.declared.slice.Slice.{Slice}
use Rattle.mm_messages.specs.declared.message.Mm.{Mm}
use Rattle.mm_messages.specs.declared.message.Mm.TheVariants as mm
use Rattle.mm_messages.specs.declared.registration.RegistrationRequest.{RegistrationRequest}
use Rattle.mm_messages.specs.declared.registration.RegistrationType.{RegistrationType}
use Rattle.mm_messages.specs.declared.registration.RegistrationType.TheVariants.{Initial, Mobility, Periodic, Emergency}
use Rattle.amf_core.specs.Challenges.{challenge}
use Rattle.amf_core.specs.declared.config.Configured.{Configured}
use Rattle.amf_core.specs.Naming.{keeper, named_by_suci}
use Rattle.amf_core.specs.Requests.{is_same}
use Rattle.amf_core.specs.Work.{Work, answer, config_of, link_of, put_link, reject, say}
use Rattle.amf_core.specs.declared.acts.Protection.TheVariants.{Ciphered}
use Rattle.amf_core.specs.declared.procedures.Accepting.{Accepting}
use Rattle.amf_core.specs.declared.procedures.Procedure.{Procedure}
use Rattle.amf_core.specs.declared.procedures.Procedure.TheVariants as procedures
use Rattle.amf_core.specs.declared.procedures.Purpose.{Purpose}
use Rattle.amf_core.specs.declared.procedures.Purpose.TheVariants.{Registration, Command}
use Rattle.amf_core.specs.declared.requests.KeptIdentity.{KeptIdentity}
use Rattle.amf_core.specs.declared.requests.KeptIdentity.TheVariants as named
use Rattle.amf_core.specs.declared.requests.Request.{Request}
use Rattle.amf_core.specs.declared.subscriber.Record.{Record}

-- A capability is enough where it has 128-NIA2, and 128-NEA2 or no ciphering.
abbrev pub is_enough : List ℕ → Bool
is_enough capability = has_ia 2 capability && (has_ea 2 capability || has_ea 0 capability)

-- where the request tells none, the one that the subscriber told last counts
abbrev pub counting_capability : Request → Record → Option (List ℕ)
counting_capability r s = per r.capability s.capability (λ (capability : List ℕ). Some capability)

-- a link, if there is one, is this one
abbrev pub is_on : ℕ → Option ℕ → Bool
is_on link own = per own false (λ (other : ℕ). other == link)

-- an equal request has a challenge on this link already, or an acceptance
abbrev pub is_purpose : Request → Purpose → Bool
is_purpose r (Registration other) = is_same r other
is_purpose r Command = false

abbrev pub is_running : ℕ → Request → Procedure → Bool
is_running link r (procedures.Challenging c) = is_on link c.link && is_purpose r c.purpose
is_running link r procedures.Idle = false
is_running link r (procedures.Accepting a) = false
is_running link r (procedures.Updating u) = false
is_running link r (procedures.Deregistering d) = false

abbrev pub equal_acceptance : Request → Procedure → Option Accepting
equal_acceptance r (procedures.Accepting a) = when is_same r a.request then Some a else None
equal_acceptance r procedures.Idle = None
equal_acceptance r (procedures.Challenging c) = None
equal_acceptance r (procedures.Updating u) = None
equal_acceptance r (procedures.Deregistering d) = None

-- REGISTRATION ACCEPT: result 3GPP access, the tracking area, the subscribed slices and T3512; of an acceptance the new 5G-GUTI
-- and the sessions that are told beside them
abbrev pub three_gpp_access : ℕ
three_gpp_access = 1

abbrev pub accept : Configured → List Slice → Option Guti → Option (List Bool) → Mm
accept config slices guti status = mm.RegistrationAccept (record {
  result = three_gpp_access;
  guti = guti;
  tai_list = Some (one_area config.plmn config.tac);
  nssai = Some slices;
  status = status;
  t3512 = Some config.t3512;
})

abbrev pub acceptance : Configured → Accepting → Record → Mm
acceptance config a s = accept config s.slices (Some a.guti) (Some a.status)

abbrev pub accept_sent : Accepting → ℕ → Record → Work → Work
accept_sent a link s w = say link (Ciphered s.supi) (acceptance (config_of w) a s) w

abbrev pub periodic_accepted : ℕ → Record → Work → Work
periodic_accepted link s w = say link (Ciphered s.supi) (accept (config_of w) s.slices None None) w

-- A periodic request is granted at once where it passed under a context of the subscriber that it names, who is registered.
abbrev pub is_periodic : RegistrationType → Bool
is_periodic Periodic = true
is_periodic Initial = false
is_periodic Mobility = false
is_periodic Emergency = false

abbrev pub is_granted : Option (List ℕ) → Request → Record → Bool
is_granted passed r s =
    is_periodic r.registration && (per passed false (λ (supi : List ℕ). bytes_eq supi s.supi) && s.registered)

-- of a subscriber whose capability is enough, in the order of its cases
unfoldable pub request_weighed : ℕ → Option (List ℕ) → Request → Record → Work → Work
request_weighed link passed r s w =
    when is_running link r s.procedure then w
    else per (equal_acceptance r s.procedure)
    (when is_granted passed r s then periodic_accepted link s w
    else challenge (Registration r) (Some link) (counting_capability r s) s w)
    (λ (a : Accepting). accept_sent a link s w)

-- of a subscriber that is known
abbrev pub is_capable : Request → Record → Bool
is_capable r s = per (counting_capability r s) false is_enough

unfoldable pub requested : ℕ → Option (List ℕ) → Request → Record → Work → Work
requested link passed r s w =
    when is_capable r s then request_weighed link passed r s w else reject link cause.UE_SECURITY_CAPABILITIES_MISMATCH w

-- A request that waits for the identity of who sent it (clause 5.4.3): the SUCI is asked for.
abbrev pub suci_type : ℕ
suci_type = 1

abbrev pub identity_wanted : ℕ → Request → Work → Work
identity_wanted link r w =
    answer link (mm.IdentityRequest (record { identity_type = suci_type })) (put_link (record (link_of link w) { waiting = Some r }) w)

-- by the identity: a SUCI of no subscriber is rejected, one that isn't read or a 5G-S-TMSI too; a 5G-GUTI that isn't kept is asked about
abbrev pub request_by_suci : ℕ → Option (List ℕ) → Request → Option Record → Work → Work
request_by_suci link passed r s w = per s (reject link cause.ILLEGAL_UE w) (λ (x : Record). requested link passed r x w)

abbrev pub request_by_guti : ℕ → Option (List ℕ) → Request → Option Record → Work → Work
request_by_guti link passed r s w = per s (identity_wanted link r w) (λ (x : Record). requested link passed r x w)

-- what is kept of it, beside who sent it
abbrev pub kept : RegistrationRequest → KeptIdentity → Request
kept m identity = record { registration = m.registration; ksi = m.ksi; identity = identity; capability = m.capability; status = m.status }

abbrev pub request_by_identity : Identity → RegistrationRequest → ℕ → Option (List ℕ) → Work → Work
request_by_identity (identities.Suci x) m link passed w = request_by_suci link passed (kept m (named.Suci x)) (named_by_suci x w) w
request_by_identity (identities.Guti g) m link passed w = request_by_guti link passed (kept m (named.Guti g)) (keeper g w) w
request_by_identity (identities.Stmsi t) m link passed w = reject link cause.UE_IDENTITY_CANNOT_BE_DERIVED_BY_THE_NETWORK w
request_by_identity (identities.Other octets) m link passed w = reject link cause.UE_IDENTITY_CANNOT_BE_DERIVED_BY_THE_NETWORK w

-- an emergency registration isn't granted
abbrev pub is_emergency : RegistrationType → Bool
is_emergency Emergency = true
is_emergency Initial = false
is_emergency Mobility = false
is_emergency Periodic = false

-- REGISTRATION REQUEST on a link; `passed` is the subscriber under whose context it passed, if it did
unfoldable pub registration_requested : RegistrationRequest → ℕ → Option (List ℕ) → Work → Work
registration_requested m link passed w =
    when is_emergency m.registration then reject link cause.PROTOCOL_ERROR_UNSPECIFIED w
    else request_by_identity m.identity m link passed w
