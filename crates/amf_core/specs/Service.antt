-- SERVICE REQUEST (TS 24.501 clause 5.6.1).
use Rattle.std.specs.Prelude.{ℕ, None}
use Rattle.nas_base.specs.Branches.{when◌then◌else◌}
use Rattle.nas_base.specs.declared.mm_cause.TheConstants as cause
use Rattle.mm_messages.specs.declared.message.Mm.{Mm}
use Rattle.mm_messages.specs.declared.message.Mm.TheVariants as mm
use Rattle.amf_core.specs.Work.{Work, answer, answer_for, say}
use Rattle.amf_core.specs.declared.acts.Protection.TheVariants.{Ciphered}
use Rattle.amf_core.specs.declared.subscriber.Record.{Record}

-- SERVICE ACCEPT and SERVICE REJECT tell no sessions.
abbrev pub service_accept : Mm
service_accept = mm.ServiceAccept (record { status = None })

abbrev pub service_reject : ℕ → Mm
service_reject n = mm.ServiceReject (record { cause = n; status = None })

-- one that passed: granted to who is registered, else rejected
unfoldable pub service_requested : ℕ → Record → Work → Work
service_requested link s w =
    when s.registered then say link (Ciphered s.supi) service_accept w
    else answer_for s link (service_reject cause.IMPLICITLY_DEREGISTERED) w

-- one that didn't, before secure exchange; nothing changes by it
unfoldable pub service_refused : ℕ → Work → Work
service_refused link w = answer link (service_reject cause.UE_IDENTITY_CANNOT_BE_DERIVED_BY_THE_NETWORK) w
