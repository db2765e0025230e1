-- IDENTITY RESPONSE (TS 24.501 clause 5.4.3).
use Rattle.std.specs.Prelude.{ℕ, None}
use Rattle.nas_base.specs.Branches.{per}
use Rattle.nas_elements.specs.Suci.{SuciParts}
use Rattle.nas_elements.specs.declared.identity.Identity.{Identity}
use Rattle.nas_elements.specs.declared.identity.Identity.TheVariants as identities
use Rattle.mm_messages.specs.declared.identification.IdentityResponse.{IdentityResponse}
use Rattle.amf_core.specs.Naming.{named_by_suci}
use Rattle.amf_core.specs.Registration.{request_by_suci}
use Rattle.amf_core.specs.Work.{Work, link_of, put_link}
use Rattle.amf_core.specs.declared.requests.Request.{Request}

-- the request that waited for it goes on with the subscriber of the SUCI, and waits no longer; it counts as one that didn't pass
abbrev pub waited : ℕ → SuciParts → Request → Work → Work
waited link x r w = request_by_suci link None r (named_by_suci x w) (put_link (record (link_of link w) { waiting = None }) w)

abbrev pub suci_told : ℕ → SuciParts → Work → Work
suci_told link x w = per (link_of link w).waiting w (λ (r : Request). waited link x r w)

abbrev pub told_by : Identity → ℕ → Work → Work
told_by (identities.Suci x) link w = suci_told link x w
told_by (identities.Guti g) link w = w
told_by (identities.Stmsi t) link w = w
told_by (identities.Other octets) link w = w

unfoldable pub identity_told : IdentityResponse → ℕ → Work → Work
identity_told m link w = told_by m.identity link w
