-- Whom an identity names (TS 24.501 clause 9.11.3.4).
use Rattle.std.specs.Prelude.{ℕ, Bool, true, false, not, ◌==◌, ◌&&◌, List, [], ◌∷◌, ◌++◌, Option, None, if◌then◌else◌}
use Rattle.std.specs.Str.{bytes_eq}
use Rattle.nas_base.specs.Plmn.{PlmnIdentity, plmn_digits}
use Rattle.nas_elements.specs.Suci.{SuciParts}
use Rattle.nas_elements.specs.declared.guti.Guti.{Guti}
use Rattle.nas_elements.specs.declared.guti.Stmsi.{Stmsi}
use Rattle.nas_elements.specs.declared.identity.Identity.{Identity}
use Rattle.nas_elements.specs.declared.identity.Identity.TheVariants as identities
use Rattle.amf_core.specs.Keyed.{found}
use Rattle.amf_core.specs.State.{has_supi}
use Rattle.amf_core.specs.Work.{Work, subscriber}
use Rattle.amf_core.specs.declared.subscriber.Record.{Record}

-- A SUCI names the subscriber whose SUPI has its digits, wherever the MNC ends. The routing indicator is passed over.
abbrev pub suci_digits : SuciParts → List ℕ
suci_digits s = plmn_digits s.plmn ++ s.msin

abbrev pub named_by_suci : SuciParts → Work → Option Record
named_by_suci s w = subscriber (suci_digits s) w

-- a 5G-GUTI, and a 5G-S-TMSI, names the subscriber for whom it is kept
abbrev pub is_plmn_of : PlmnIdentity → PlmnIdentity → Bool
is_plmn_of one other = bytes_eq one.mcc other.mcc && bytes_eq one.mnc other.mnc

abbrev pub is_guti : Guti → Guti → Bool
is_guti one other =
    is_plmn_of one.plmn other.plmn && one.region == other.region && one.set_pointer == other.set_pointer && one.tmsi == other.tmsi

abbrev pub is_short_for : Stmsi → Guti → Bool
is_short_for s g = s.set_pointer == g.set_pointer && s.tmsi == g.tmsi

abbrev pub is_any : {A : Type 0} → (A → Bool) → List A → Bool
is_any is [] = false
is_any is (x ∷ xs) = if is x then true else is_any is xs

abbrev pub keeps_guti : Guti → Record → Bool
keeps_guti g s = is_any (is_guti g) s.kept

abbrev pub keeps_stmsi : Stmsi → Record → Bool
keeps_stmsi t s = is_any (is_short_for t) s.kept

abbrev pub keeper : Guti → Work → Option Record
keeper g w = found (keeps_guti g) w.amf.subscribers

abbrev pub short_keeper : Stmsi → Work → Option Record
short_keeper t w = found (keeps_stmsi t) w.amf.subscribers

-- a 5G-GUTI is kept for another subscriber than the one of this SUPI
abbrev pub keeps_for_another : List ℕ → Guti → Record → Bool
keeps_for_another supi g s = not (has_supi supi s) && keeps_guti g s

abbrev pub is_kept_for_another : List ℕ → Guti → List Record → Bool
is_kept_for_another supi g subscribers = is_any (keeps_for_another supi g) subscribers

-- for whom the identity of a request is kept
abbrev pub kept_for : Identity → Work → Option Record
kept_for (identities.Guti g) w = keeper g w
kept_for (identities.Stmsi t) w = short_keeper t w
kept_for (identities.Suci s) w = None
kept_for (identities.Other octets) w = None
