-- How the handset names itself, and the identification procedure (TS 24.501 clause 5.4.3).
use Rattle.std.specs.Prelude.{ℕ, [], ◌∷◌, ◌==◌, Option, Some}
use Rattle.nas_base.specs.Branches.{per, when◌then◌else◌}
use Rattle.nas_base.specs.Supi.{msin_of}
use Rattle.nas_base.specs.declared.mm_cause.TheConstants as cause
use Rattle.nas_elements.specs.Guti.{stmsi_of}
use Rattle.nas_elements.specs.Suci.{SuciParts}
use Rattle.nas_elements.specs.declared.guti.Guti.{Guti}
use Rattle.nas_elements.specs.declared.identity.Identity.{Identity}
use Rattle.nas_elements.specs.declared.identity.Identity.TheVariants as identities
use Rattle.nas_security.specs.Contexts.{SecurityContext}
use Rattle.mm_messages.specs.declared.identification.IdentityRequest.{IdentityRequest}
use Rattle.mm_messages.specs.declared.message.Mm.TheVariants as mm
use Rattle.ue_mm.specs.Config.{HandsetValues}
use Rattle.ue_mm.specs.Work.{answer, status}
use Rattle.ue_mm.specs.declared.work.Work.{Work}

-- the SUCI under the null scheme, with routing indicator 0 (TS 23.003 clause 2.2B)
abbrev pub suci_of : HandsetValues → SuciParts
suci_of config = record { plmn = config.plmn; routing = 0 ∷ []; msin = msin_of config.plmn config.supi }

-- by its 5G-GUTI where it has one (TS 24.501 clause 5.5.1.2.2), in a service request by its 5G-S-TMSI (clause 5.6.1.2)
abbrev pub identity_of : HandsetValues → Option Guti → Identity
identity_of config guti = per guti (identities.Suci (suci_of config)) (λ (g : Guti). identities.Guti g)

abbrev pub short_identity_of : HandsetValues → Option Guti → Identity
short_identity_of config guti = per guti (identities.Suci (suci_of config)) (λ (g : Guti). identities.Stmsi (stmsi_of g))

-- the network gives it another 5G-GUTI
abbrev pub renamed : Guti → Work → Work
renamed guti w = record w { common = record w.common { guti = Some guti } }

-- the current context by its ngKSI; 7 says that there is none (clause 9.11.3.32)
abbrev pub ksi_of : Option SecurityContext → ℕ
ksi_of current = per current 7 (λ (context : SecurityContext). context.ksi)

-- IDENTITY REQUEST: the SUCI is told where it is asked for, type 1; other identities are not told
unfoldable pub identity_requested : IdentityRequest → Work → Work
identity_requested m w =
    when m.identity_type == 1 then answer (mm.IdentityResponse (record { identity = identities.Suci (suci_of w.common.config) })) w
    else status cause.PROTOCOL_ERROR_UNSPECIFIED w
