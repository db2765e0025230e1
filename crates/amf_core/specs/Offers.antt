-- 5G-GUTIs that are offered to a handset, and confirmed by it (TS 24.501 clauses 5.4.4 and 5.5.1.2.4).
use Rattle.std.specs.Prelude.{ℕ, Bool, true, false, ◌&&◌, [], ◌∷◌, Option, Some, None}
use Rattle.nas_base.specs.Branches.{per, when◌then◌else◌}
use Rattle.nas_elements.specs.declared.guti.Guti.{Guti}
use Rattle.nas_security.specs.Contexts.{is_challenge}
use Rattle.nas_security.specs.declared.challenges.Challenge.{Challenge}
use Rattle.amf_core.specs.State.{with_next_tmsi}
use Rattle.amf_core.specs.Work.{Work}
use Rattle.amf_core.specs.declared.config.Configured.{Configured}
use Rattle.amf_core.specs.declared.subscriber.Offer.{Offer}
use Rattle.amf_core.specs.declared.subscriber.OfferKind.{OfferKind}
use Rattle.amf_core.specs.declared.subscriber.OfferKind.TheVariants.{Accept, Update}
use Rattle.amf_core.specs.declared.subscriber.Record.{Record}

-- a new 5G-GUTI has the next 5G-TMSI, which is then taken
abbrev pub new_guti : Configured → ℕ → Guti
new_guti config tmsi = record { plmn = config.plmn; region = config.region; set_pointer = config.set_pointer; tmsi = tmsi }

abbrev pub tmsi_of : Work → ℕ
tmsi_of w = w.amf.tmsi

abbrev pub tmsi_taken : Work → Work
tmsi_taken w = record w { amf = with_next_tmsi w.amf }

-- the 5G-GUTI that this kind of message offered under this challenge, if it was the last that was offered
abbrev pub is_kind : OfferKind → OfferKind → Bool
is_kind Accept Accept = true
is_kind Accept Update = false
is_kind Update Accept = false
is_kind Update Update = true

abbrev pub offered_by : OfferKind → Challenge → Record → Option Guti
offered_by kind challenge s =
    per s.offered None (λ (o : Offer).
    when is_kind kind o.kind && is_challenge o.challenge challenge then Some o.guti else None)

-- it is confirmed: it is kept alone
abbrev pub confirmed : Guti → Record → Record
confirmed g s = record s { kept = g ∷ []; completed = true }
